use Rattle.std.proofs.Common.{◌≡◌, ◌-◌, None}
use Rattle.job_text.specs.Shapes.{job_of}
use Rattle.channel_state.specs.ImageFaults.{runs}
use Rattle.channel_state.proofs.check.check_runs.Given as goal

abbrev pub invariant-loop-i : goal.invariant-loop-i
invariant-loop-i l = runs (job_of l.shape) l.edge l.to (l.many - l._i) l.before l.cursor.rest.now ≡ runs (job_of l.shape) l.edge l.to l.many None l.fn.cursor.rest.now
