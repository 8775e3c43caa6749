use Rattle.std.proofs.Common.{◌≡◌, ◌+◌, ◌≤◌, ◌++◌, take}
use Rattle.std.specs.List.{flat_map}
use Rattle.job_ends.specs.Leaving.{WithoutSnapshots, acknowledged_in}
use Rattle.job_ends.proofs.Rows.{UpTo}
use Rattle.job_ends.proofs.acknowledged.take_row.Given as goal

abbrev pub invariant-loop-task : goal.invariant-loop-task
invariant-loop-task g l = record {
  row : UpTo WithoutSnapshots l.task l.fn.row.items l.row.items;
  passes : l.passes.items ≡ l.fn.passes.items ++ flat_map acknowledged_in (take l.task l.fn.row.items);
  room : l.fn.passes.room ≤ l.passes.room + l.task;
}
