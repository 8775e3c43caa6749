use Rattle.std.proofs.Common.{◌≡◌, suc, length, arith}
use Rattle.image_lines.proofs.Below.{one_more, all_below}
use Rattle.image_lines.proofs.lines.add_tasks.Goals as goal

pub loop-stage-preserved : goal.loop-stage-preserved
loop-stage-preserved c = one_more _ _ _ c.loop-stage.stage _ c.loop-stage.invariant c.in_ok-add_stage.ensures

pub returns : goal.returns
returns c =
    all_below _ _ c.loop-stage.stage (suc (length c.args.job.now.stages.items)) _ c.loop-stage.invariant
    (omega arith)
