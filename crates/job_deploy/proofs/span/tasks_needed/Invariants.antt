use Rattle.std.proofs.Common.{◌≡◌, ◌*◌, ◌≤◌, length}
use Rattle.snapshot_channel.specs.Snapshots.{tasks_below}
use Rattle.job_deploy.proofs.span.tasks_needed.Given as goal

abbrev pub invariant-loop-stage : goal.invariant-loop-stage
invariant-loop-stage l = record {
  is : l.needed ≡ length (tasks_below l.job l.stage);
  few : l.needed ≤ 8 * l.stage;
}
