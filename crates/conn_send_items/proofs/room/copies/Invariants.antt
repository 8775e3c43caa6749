use Rattle.std.proofs.Common.{◌≡◌, replicate}
use Rattle.conn_send_items.proofs.room.copies.Given as goal

abbrev pub invariant-loop-copy : goal.invariant-loop-copy
invariant-loop-copy g l = record { items : l.list.items ≡ replicate l._copy l.item }
