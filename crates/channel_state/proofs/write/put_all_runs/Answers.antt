use Rattle.std.proofs.Common.{rules, ◌<◌, length, arith}
use Rattle.std.specs.Prelude.{◌^◌}
use Rattle.std.proofs.lemmas.Grind.{common_steps}
use Rattle.std.proofs.lemmas.List.Elements.{All-more}
use Rattle.flow_defs.specs.declared.image.TakeRun.{TakeRun}
use Rattle.channel_state.proofs.write.put_all_runs.Goals as goal

pub loop-run-preserved : goal.loop-run-preserved
loop-run-preserved c =
    let low : c.loop-run.run-index < length c.args.runs.now = search rules in
    record { out = grind (arith, common_steps); range = All-more (λ (run : TakeRun). run.count < 2 ^ 64) c.args.runs.now c.loop-run.run-index _ low c.loop-run.invariant.range c.put_run.ensures.range }
