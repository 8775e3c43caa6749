use Rattle.std.proofs.Common.{◌≡◌, ◌-◌, suc}
use Rattle.flow_defs.specs.Jobs.{tasks}
use Rattle.job_text.specs.Shapes.{job_of}
use Rattle.channel_state.specs.Reading.{parts_from, parts}
use Rattle.channel_state.specs.ImageFaults.{takes}
use Rattle.channel_state.proofs.check.check_takes.Given as goal

abbrev pub invariant-loop-edge : goal.invariant-loop-edge
invariant-loop-edge l =
    parts_from l.edge (l.edges - l.edge) (λ e. parts (tasks (job_of l.shape) (suc e)) (takes (job_of l.shape) e)) l.cursor.rest.now
    ≡ parts l.edges (λ e. parts (tasks (job_of l.shape) (suc e)) (takes (job_of l.shape) e)) l.fn.cursor.rest.now
