use Rattle.std.proofs.Common.{◌≡◌, ℕ, [], ◌++◌, ◌<◌}
use Rattle.plain_machine.specs.Images.{items_at}
use Rattle.collector.proofs.fault.are_empty.Given as goal

abbrev pub invariant-loop-i : goal.invariant-loop-i
invariant-loop-i l = (place : ℕ) → place < l.i → items_at l.pieces_in place ++ items_at l.pieces_out place ≡ []
