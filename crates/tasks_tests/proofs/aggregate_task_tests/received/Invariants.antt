use Rattle.snapshot_channel.specs.Passes.{IsCollecting}
use Rattle.tasks_tests.proofs.aggregate_task_tests.received.Given as goal

abbrev pub invariant-snapshots : goal.invariant-snapshots
invariant-snapshots g l = IsCollecting l.fn.channel l.collecting
