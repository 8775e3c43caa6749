use Rattle.std.proofs.Common.{◌≡◌, length}
use Rattle.conn_send_control.specs.Taking.{NoneEnded}
use Rattle.conn_send_control.proofs.announce.marks.Given as goal

abbrev pub invariant-loop-mark : goal.invariant-loop-mark
invariant-loop-mark l = (length l.marks.items ≡ l._mark) × NoneEnded l.marks.items
