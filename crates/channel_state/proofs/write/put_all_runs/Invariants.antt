use Rattle.std.proofs.Common.{◌≡◌, ◌++◌, take}
use Rattle.std.specs.Prelude.{flat_map}
use Rattle.plain_machine.specs.Spelling.{run_part}
use Rattle.channel_state.specs.Contents.{HaveCounts}
use Rattle.channel_state.proofs.write.put_all_runs.Given as goal

abbrev pub invariant-loop-run : goal.invariant-loop-run
invariant-loop-run l = record { out : l.out.items ≡ l.fn.out.items ++ flat_map run_part (take l.run-index l.runs); range : HaveCounts (take l.run-index l.runs) }
