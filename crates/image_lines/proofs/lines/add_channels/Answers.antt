use Rattle.std.proofs.Common.{◌≡◌, suc, length, arith}
use Rattle.image_lines.proofs.Below.{one_more, all_below}
use Rattle.image_lines.proofs.lines.add_channels.Goals as goal

pub loop-edge-preserved : goal.loop-edge-preserved
loop-edge-preserved c = one_more _ _ _ c.loop-edge.edge _ c.loop-edge.invariant c.in_ok-add_edge.ensures

pub returns : goal.returns
returns c =
    all_below _ _ c.loop-edge.edge (suc (length c.args.job.now.stages.items)) _ c.loop-edge.invariant
    (omega arith)
