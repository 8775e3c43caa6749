use Rattle.std.proofs.Common.{◌≡◌, length, []}
use Rattle.std.specs.List.{All}
use Rattle.job_cells.proofs.partitions.lists_of.Given as goal

abbrev pub invariant-loop-made : goal.invariant-loop-made
invariant-loop-made l = record {
  many : length l.lists.items ≡ l._made;
  empty : All (λ own. own.items ≡ []) l.lists.items;
}
