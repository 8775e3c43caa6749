use Rattle.turn_cell.specs.Passes.{IsPassOf}
use Rattle.turn_tests.proofs.looking.rest_often.Given as goal

abbrev pub invariant-loop-round : goal.invariant-loop-round
invariant-loop-round g l = IsPassOf l.cell l.pass
