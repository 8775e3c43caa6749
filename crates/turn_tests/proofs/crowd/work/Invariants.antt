use Rattle.std.proofs.Common.{◌≡◌}
use Rattle.turn_cell.specs.Passes.{IsPassOf, number}
use Rattle.turn_tests.proofs.crowd.work.Given as goal

abbrev pub invariant-loop-round : goal.invariant-loop-round
invariant-loop-round g l = record {
  own : IsPassOf l.own l.own_pass;
  own_number : number l.own_pass ≡ number l.initial.own_pass;
  shared : IsPassOf l.shared l.pass;
  shared_number : number l.pass ≡ number l.fn.pass;
}
