use Rattle.std.proofs.Common.{ℕ, ◌++◌, ◌<◌}
use Rattle.plain_machine.specs.Images.{AreSpans, items_at}
use Rattle.collector.proofs.fault.are_all_records.Given as goal

abbrev pub invariant-loop-i : goal.invariant-loop-i
invariant-loop-i l = (place : ℕ) → place < l.i → AreSpans (items_at l.pieces_in place ++ items_at l.pieces_out place)
