use Rattle.snapshot_channel.specs.Passes.{opening}
use Rattle.snapshot_channel.proofs.Loops.{IsOpening}
use Rattle.snapshot_channel.proofs.opened.SnapshotChannel.open.Given as goal

abbrev pub invariant-loop-stage : goal.invariant-loop-stage
invariant-loop-stage l = IsOpening (opening l.job l.fn.start l.fn.every) l.channel l.stage l.collecting l.passes.items
