use Rattle.std.proofs.Common.{◌≡◌, ◌≤◌, ◌+◌, length}
use Rattle.input_gate.specs.Channels.{passes_in}
use Rattle.input_gate.proofs.cell_gate.gather_passes.Given as goal

abbrev pub invariant-loop-lane : goal.invariant-loop-lane
invariant-loop-lane l = record {
  gathered : l.kept.items ≡ passes_in l.yielded;
  room : length l.fn.lanes.items ≤ l.kept.room + length l.yielded;
}
