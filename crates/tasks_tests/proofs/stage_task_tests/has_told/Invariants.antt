use Rattle.snapshot_channel.specs.Passes.{IsCollecting}
use Rattle.tasks_tests.proofs.stage_task_tests.has_told.Given as goal

abbrev pub invariant-snapshots : goal.invariant-snapshots
invariant-snapshots g l = IsCollecting l.fn.channel l.collecting
