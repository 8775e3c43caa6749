use Rattle.std.proofs.Common.{◌≡◌, length}
use Rattle.collector.specs.Filling.{AreEmpty}
use Rattle.collector.proofs.blank.no_pieces.Given as goal

abbrev pub invariant-loop-made : goal.invariant-loop-made
invariant-loop-made l = record { many : length l.pieces.items ≡ l._made; empty : AreEmpty l.pieces.items }
