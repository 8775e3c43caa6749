use Rattle.std.proofs.Common.{rules, ◌<◌, length, subst, arith}
use Rattle.std.proofs.lemmas.Grind.{common_steps}
use Rattle.std.proofs.lemmas.List.Elements.{All-more}
use Rattle.flow_defs.specs.Items.{Items}
use Rattle.flow_defs.specs.declared.image.TakeRun.{TakeRun}
use Rattle.channel_state.specs.Contents.{HaveCounts}
use Rattle.channel_state.proofs.write.put_takes.Goals as goal

pub loop-runs-preserved : goal.loop-runs-preserved
loop-runs-preserved c =
    let counts = subst (λ (runs : Items TakeRun). HaveCounts runs.items) c.runs-item.is (subst HaveCounts c.as_slice.ensures c.in_ok-put_runs.ensures.range) in
    let low : c.loop-runs.runs-index < length c.args.takes.now = search rules in
    record { out = grind (arith, common_steps); range = All-more (λ (runs : Items TakeRun). HaveCounts runs.items) c.args.takes.now c.loop-runs.runs-index _ low c.loop-runs.invariant.range counts }
