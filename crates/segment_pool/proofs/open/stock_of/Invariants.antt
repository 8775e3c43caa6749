use Rattle.std.proofs.Common.{◌≡◌, ◌+◌, ◌≤◌, length}
use Rattle.std.specs.List.{All}
use Rattle.segment_pool.proofs.open.stock_of.Given as goal

abbrev pub invariant-loop-made : goal.invariant-loop-made
invariant-loop-made l = record {
  made : length l.free.items ≡ l._made;
  sizes : All (λ segment. length segment ≡ l.terms.size) l.free.items;
  room : l.terms.total ≤ length l.free.items + l.free.room;
}
