use Rattle.std.proofs.Common.{◌≡◌, ◌++◌, drop}
use Rattle.std.specs.Prelude.{flat_map}
use Rattle.std.specs.List.{zip}
use Rattle.plain_machine.specs.Spelling.{source_part}
use Rattle.channel_state.proofs.write.put_sources.Given as goal

abbrev pub invariant-sources : goal.invariant-sources
invariant-sources l = l.out.items ++ flat_map source_part (zip (drop l.i l.offsets) (drop l.i l.ended)) ≡ l.fn.out.items ++ flat_map source_part (zip l.offsets l.ended)
