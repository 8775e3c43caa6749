use Rattle.std.proofs.Common.{◌≡◌, ◌++◌, take}
use Rattle.std.specs.Prelude.{flat_map, All}
use Rattle.flow_defs.specs.Items.{Items}
use Rattle.flow_defs.specs.declared.image.TakeRun.{TakeRun}
use Rattle.plain_machine.specs.Spelling.{run_part, counted}
use Rattle.channel_state.specs.Contents.{HaveCounts}
use Rattle.channel_state.proofs.write.put_takes.Given as goal

abbrev pub invariant-loop-runs : goal.invariant-loop-runs
invariant-loop-runs l = record {
  out : l.out.items ≡ l.fn.out.items ++ flat_map (λ (runs : Items TakeRun). counted run_part runs.items) (take l.runs-index l.takes);
  range : All (λ (runs : Items TakeRun). HaveCounts runs.items) (take l.runs-index l.takes);
}
