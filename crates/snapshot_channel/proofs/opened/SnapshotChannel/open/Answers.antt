use Rattle.std.proofs.Common.{arith}
use Rattle.snapshot_channel.proofs.Loops.{opening_begins, opening_ends}
use Rattle.snapshot_channel.proofs.opened.SnapshotChannel.open.Goals as goal

pub loop-stage-init : goal.loop-stage-init
loop-stage-init c = opening_begins _ _ _ _ c.in_ok-channel.ensures.opening c.in_ok-channel.ensures.collecting c.in_ok-channel.ensures.empty c.new-passes.ensures

pub deal_stage-requires-clause-dealt : goal.deal_stage-requires-clause-dealt
deal_stage-requires-clause-dealt c = c.loop-stage.invariant.dealt

pub loop-stage-preserved : goal.loop-stage-preserved
loop-stage-preserved c = record { opening_is = c.loop-stage.invariant.opening_is; dealt = c.in_ok-deal_stage.ensures }

pub returns : goal.returns
returns c =
    opening_ends c.args.job.now c.args.start.now c.args.every (record { channel = c.in_ok-channel.channel; collecting = c.loop-stage.collecting; passes = c.loop-stage.passes }) c.loop-stage.stage (omega arith) c.loop-stage.invariant
