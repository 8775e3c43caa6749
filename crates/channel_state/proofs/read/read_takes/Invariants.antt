use Rattle.job_text.specs.Shapes.{job_of}
use Rattle.channel_state.specs.Building.{IsBytes, AreTakes}
use Rattle.channel_state.proofs.read.read_takes.Given as goal

abbrev pub invariant-loop-edge : goal.invariant-loop-edge
invariant-loop-edge l = IsBytes l.fn.cursor.rest.now → AreTakes (job_of l.shape) l.edge 0 l.fn.cursor.rest.now l.cursor.rest.now l.takes.items
