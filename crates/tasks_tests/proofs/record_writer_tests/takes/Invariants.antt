use Rattle.std.proofs.Common.{◌≡◌}
use Rattle.turn_cell.specs.Passes.{IsPassOf, number}
use Rattle.tasks_tests.proofs.record_writer_tests.takes.Given as goal

abbrev pub invariant-loop-number : goal.invariant-loop-number
invariant-loop-number g l = IsPassOf l.cell l.sender × (number l.sender ≡ 1)
