use Rattle.snapshot_channel.specs.Passes.{opening}
use Rattle.snapshot_channel.proofs.opened.SnapshotChannel.line.Given as goal

abbrev pub ghosts-open_for : goal.ghosts-open_for
ghosts-open_for a = record { opening = opening a.job.now a.start.now a.every }
