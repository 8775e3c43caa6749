use Rattle.std.proofs.Common.{◌≡◌, ◌≤◌, length, take, drop, reverse, vec_len, vec_capacity}
use Rattle.input_gate.specs.Making.{AreFreshLanes}
use Rattle.input_gate.proofs.cell_gate.deal_lanes.Given as goal

abbrev pub invariant-loop-cell : goal.invariant-loop-cell
invariant-loop-cell l = record {
  within : l.cell-index ≤ length l.cells;
  left : l.passes.items ≡ reverse (drop l.cell-index l.fn.passes.items);
  room : l.cell-index ≤ l.passes.room;
  lanes : AreFreshLanes (take l.cell-index l.cells) (take l.cell-index l.fn.passes.items) l.lanes.items;
  len : vec_len l.lanes ≡ l.cell-index;
  capacity : length l.cells ≤ vec_capacity l.lanes;
}
