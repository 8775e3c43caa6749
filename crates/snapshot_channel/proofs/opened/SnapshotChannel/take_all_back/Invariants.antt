use Rattle.std.proofs.Common.{length}
use Rattle.snapshot_channel.proofs.Loops.{IsSoFar}
use Rattle.snapshot_channel.proofs.opened.SnapshotChannel.take_all_back.Given as goal

abbrev pub invariant-loop-pass : goal.invariant-loop-pass
invariant-loop-pass l = IsSoFar l.self l.fn.collecting l.collecting l.fn.passes.items l.rest.items

abbrev pub decreases-loop-pass : goal.decreases-loop-pass
decreases-loop-pass l = length l.rest.items
