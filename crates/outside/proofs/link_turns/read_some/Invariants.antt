use Rattle.std.proofs.Common.{◌≡◌, length}
use Rattle.turn_cell.specs.Passes.{IsPassOf, mine, number}
use Rattle.outside.proofs.link_turns.read_some.Given as goal

abbrev pub invariant-loop-round : goal.invariant-loop-round
invariant-loop-round g l = record {
  pass : IsPassOf l.cell l.pass;
  number : number l.pass ≡ 1;
  mine : mine l.pass ≡ mine l.fn.pass;
  room : length l.room ≡ length l.fn.room;
}
