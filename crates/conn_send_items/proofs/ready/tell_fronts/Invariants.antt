use Rattle.std.proofs.Common.{◌≡◌, ◌<◌, ℕ, [], length, Some}
use Rattle.std.specs.Prelude.{slice_get}
use Rattle.conn_send_items.specs.declared.cells.Front.{Front}
use Rattle.turn_cell.specs.Passes.{mine, seen}
use Rattle.conn_send_items.specs.Fronts.{StandsAt}
use Rattle.conn_send_items.specs.Steps.{HasPasses, BacklogAt, Sends}
use Rattle.conn_send_items.proofs.ready.tell_fronts.Given as goal

abbrev pub invariant-loop-place : goal.invariant-loop-place
invariant-loop-place g l = record {
  passes : HasPasses l.cells l.passes;
  told : length l.told.items ≡ length l.cells.channels.now;
  pools : l.passes.pools ≡ l.initial.passes.pools;
  quiet : Sends l.cells.channels.now l.initial.passes.subpartitions.items l.passes.subpartitions.items (mine l.initial.passes.readers) (mine l.passes.readers) [];
  noted : (k : ℕ) (f : Front) → k < l.place → slice_get l.told.items k ≡ Some f → BacklogAt l.cells.channels.now (mine l.passes.readers) l.passes.subpartitions.items k f.backlog;
  stand : (k : ℕ) → k < l.place → StandsAt l.cells.channels.now (seen l.passes.readers) l.passes.subpartitions.items k;
}
