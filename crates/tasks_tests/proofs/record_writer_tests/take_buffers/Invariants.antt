use Rattle.std.proofs.Common.{◌≡◌}
use Rattle.turn_cell.specs.Passes.{IsPassOf, number}
use Rattle.tasks_tests.proofs.record_writer_tests.take_buffers.Given as goal

abbrev pub invariant-loop-bytes : goal.invariant-loop-bytes
invariant-loop-bytes g l = IsPassOf l.cell l.sender × (number l.sender ≡ 1)
