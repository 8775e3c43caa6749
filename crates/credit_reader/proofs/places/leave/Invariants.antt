use Rattle.std.proofs.Common.{◌≡◌, length}
use Rattle.credit_reader.proofs.Lists.{turned}
use Rattle.credit_reader.proofs.places.leave.Given as goal

abbrev pub invariant-loop-turn : goal.invariant-loop-turn
invariant-loop-turn l = (l.able.items ≡ turned l.place l._turn l.fn.able.items) × (l.able.capacity ≡ l.fn.able.capacity) × (l._turn-end ≡ length l.fn.able.items)
