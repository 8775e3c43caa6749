use Rattle.std.proofs.Common.{ℕ, List}
use Rattle.job_text.specs.Shapes.{job_of}
use Rattle.channel_state.specs.Building.{AreTakes}
use Rattle.channel_state.proofs.read.read_takes_behind.Given as goal

abbrev pub invariant-loop-to : goal.invariant-loop-to
invariant-loop-to l = (start : List ℕ) → AreTakes (job_of l.shape) l.edge 0 start l.fn.cursor.rest.now l.fn.takes.items → AreTakes (job_of l.shape) l.edge l.to start l.cursor.rest.now l.takes.items
