use Rattle.snapshot_channel.proofs.Steps.{begins}
use Rattle.snapshot_channel.proofs.opened.SnapshotChannel.line.Goals as goal

pub bounded_with-requires-clause-rule : goal.bounded_with-requires-clause-rule
bounded_with-requires-clause-rule c = begins
