use Rattle.snapshot_channel.proofs.Loops.{so_far_more}
use Rattle.snapshot_channel.proofs.opened.SnapshotChannel.take_all_back.Goals as goal

pub loop-pass-preserved : goal.loop-pass-preserved
loop-pass-preserved c = so_far_more _ _ _ _ _ _ _ _ c.loop-pass.invariant c.in-Some.ensures.items c.take_back.ensures.collecting c.take_back.ensures.received c.take_back.ensures.back
