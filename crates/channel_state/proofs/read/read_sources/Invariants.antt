use Rattle.channel_state.specs.Building.{IsBytes, AreSources}
use Rattle.channel_state.proofs.read.read_sources.Given as goal

abbrev pub invariant-loop-i : goal.invariant-loop-i
invariant-loop-i l = IsBytes l.fn.cursor.rest.now → AreSources l._i l.last l.fn.cursor.rest.now l.cursor.rest.now l.offsets.items l.ends.items
