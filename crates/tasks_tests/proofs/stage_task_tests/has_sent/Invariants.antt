use Rattle.std.proofs.Common.{◌≡◌}
use Rattle.turn_cell.specs.Passes.{IsPassOf, number}
use Rattle.tasks_tests.proofs.stage_task_tests.has_sent.Given as goal

abbrev pub invariant-barriers : goal.invariant-barriers
invariant-barriers g l = IsPassOf l.fn.cell l.sender × (number l.sender ≡ 1)
