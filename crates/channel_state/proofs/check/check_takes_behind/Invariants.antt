use Rattle.std.proofs.Common.{◌≡◌, ◌-◌}
use Rattle.job_text.specs.Shapes.{job_of}
use Rattle.channel_state.specs.Reading.{parts_from, parts}
use Rattle.channel_state.specs.ImageFaults.{takes}
use Rattle.channel_state.proofs.check.check_takes_behind.Given as goal

abbrev pub invariant-loop-to : goal.invariant-loop-to
invariant-loop-to l = parts_from l.to (l.many - l.to) (takes (job_of l.shape) l.edge) l.cursor.rest.now ≡ parts l.many (takes (job_of l.shape) l.edge) l.fn.cursor.rest.now
