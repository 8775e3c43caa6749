use Rattle.std.proofs.Common.{◌≡◌, ◌+◌, ◌≤◌, length, take}
use Rattle.std.specs.List.{flat_map}
use Rattle.flow_defs.specs.Jobs.{sum_below, tasks}
use Rattle.snapshot_channel.specs.Snapshots.{all_tasks}
use Rattle.job_ends.specs.Leaving.{RowWithoutSnapshots, acknowledged_by}
use Rattle.job_ends.proofs.Rows.{UpTo}
use Rattle.job_ends.proofs.acknowledged.settle_snapshots.Given as goal

abbrev pub invariant-loop-stage : goal.invariant-loop-stage
invariant-loop-stage g l = record {
  rows : UpTo RowWithoutSnapshots l.stage l.fn.rows l.rows;
  passes : l.passes.items ≡ flat_map acknowledged_by (take l.stage l.fn.rows);
  room : length (all_tasks l.job) ≤ l.passes.room + sum_below l.stage (tasks l.job);
}
