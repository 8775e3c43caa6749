use Rattle.std.proofs.Common.{◌+◌, ◌≤◌}
use Rattle.turn_cell.specs.Making.{AreMade}
use Rattle.turn_cell.proofs.make.fill.Given as goal

abbrev pub invariant-loop-number : goal.invariant-loop-number
invariant-loop-number g l = record {
  made : AreMade l.cell l.number l.all.items;
  room : l.passes ≤ l.all.room + l.number;
  within : l.number ≤ l.passes;
}
