use Rattle.std.proofs.Common.{◌≡◌, []}
use Rattle.turn_cell.specs.Passes.{mine}
use Rattle.conn_send_items.specs.Steps.{HasPasses, Sends, AllStand, AreNoted}
use Rattle.conn_send_items.proofs.ready.tell_new_fronts.Given as goal

abbrev pub invariant-loop-place : goal.invariant-loop-place
invariant-loop-place g l = record {
  passes : HasPasses l.cells l.passes;
  told : AreNoted l.cells l.passes l.told.items;
  pools : l.passes.pools ≡ l.initial.passes.pools;
  quiet : Sends l.cells.channels.now l.initial.passes.subpartitions.items l.passes.subpartitions.items (mine l.initial.passes.readers) (mine l.passes.readers) [];
  stand : AllStand l.cells l.passes;
}
