use Rattle.channel_state.specs.Building.{IsBytes, AreSaved}
use Rattle.channel_state.proofs.read.read_saved.Given as goal

abbrev pub invariant-loop-i : goal.invariant-loop-i
invariant-loop-i l = IsBytes l.fn.cursor.rest.now → AreSaved l._i l.last l.fn.cursor.rest.now l.cursor.rest.now l.pieces_in.items l.pieces_out.items
