use Rattle.std.proofs.Common.{◌≡◌, ◌≤◌, true, None, [], length}
use Rattle.turn_cell.specs.Passes.{IsPassOf, IsSamePass, mine, seen}
use Rattle.outside.specs.Stops.{first_met}
use Rattle.conn_send_items.specs.Giving.{Gives}
use Rattle.conn_send_items.specs.Steps.{HasPasses, AllStand, AreNoted, HasWritten}
use Rattle.conn_send_items.proofs.send.send_until.Given as goal

abbrev pub invariant-loop-round : goal.invariant-loop-round
invariant-loop-round g l = let was = l.initial.passes in let now = l.passes in record {
  passes : HasPasses l.cells now;
  stand : AllStand l.cells now;
  told : AreNoted l.cells now l.room.told.items;
  ended : length l.room.ended.items ≡ length l.cells.channels.now;
  empty : l.room.outgoing ≡ [];
  unfinished : g.O.LinkOut.finished l.out ≡ g.O.LinkOut.finished l.initial.out;
  line : g.O.LinkOut.line l.out ≡ g.O.LinkOut.line l.initial.out;
  faults : g.O.LinkOut.faults l.initial.out ≤ g.O.LinkOut.faults l.out;
  gives : Gives l.cells.channels.now was now;
  written : HasWritten l.cells.channels.now was.subpartitions.items now.subpartitions.items (mine was.readers) (mine now.readers) l.initial.room.ended.items l.room.ended.items (g.O.LinkOut.sent l.initial.out) (g.O.LinkOut.sent l.out);
  stop : IsPassOf l.stop l.stop_pass;
  stop_same : IsSamePass l.initial.stop_pass l.stop_pass;
  calm : l.watch ≡ true → first_met (seen l.stop_pass) ≡ None;
}
