use Rattle.std.proofs.Common.{◌≡◌, ◌-◌, length}
use Rattle.turn_cell.specs.Passes.{mine}
use Rattle.conn_parts.specs.declared.outgoing.TheConstants.{OUT_ROOM}
use Rattle.conn_send_items.specs.Giving.{Gives}
use Rattle.conn_send_items.specs.Steps.{HasPasses, AllStand, AreNoted, Lays}
use Rattle.conn_send_items.proofs.laying.lay_items.Given as goal

abbrev pub invariant-loop-passes : goal.invariant-loop-passes
invariant-loop-passes g l = let was = l.initial.passes in let now = l.passes in record {
  passes : HasPasses l.cells now;
  stand : AllStand l.cells now;
  ended : length l.room.ended.items ≡ length l.cells.channels.now;
  told : AreNoted l.cells now l.room.told.items;
  gives : Gives l.cells.channels.now was now;
  lays : Lays l.cells.channels.now was.subpartitions.items now.subpartitions.items (mine was.readers) (mine now.readers) l.initial.room.ended.items l.room.ended.items l.initial.room.outgoing l.room.outgoing;
}

abbrev pub decreases-loop-passes : goal.decreases-loop-passes
decreases-loop-passes g l = OUT_ROOM - length l.room.outgoing
