use Rattle.snapshot_channel.proofs.Loops.{IsDealtTo}
use Rattle.snapshot_channel.proofs.opened.SnapshotChannel.deal_stage.Given as goal

abbrev pub invariant-loop-index : goal.invariant-loop-index
invariant-loop-index l = IsDealtTo l.self l.stage l.index l.collecting l.passes.items
