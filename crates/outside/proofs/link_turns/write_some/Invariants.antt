use Rattle.std.proofs.Common.{◌≡◌}
use Rattle.turn_cell.specs.Passes.{IsPassOf, mine, number}
use Rattle.outside.proofs.link_turns.write_some.Given as goal

abbrev pub invariant-loop-round : goal.invariant-loop-round
invariant-loop-round g l = record {
  pass : IsPassOf l.cell l.pass;
  number : number l.pass ≡ 0;
  mine : mine l.pass ≡ mine l.fn.pass;
}
