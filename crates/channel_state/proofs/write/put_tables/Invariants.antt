use Rattle.std.proofs.Common.{◌≡◌, ◌++◌, take}
use Rattle.std.specs.Prelude.{flat_map}
use Rattle.std.specs.FinMap.{entries}
use Rattle.flow_defs.specs.Tables.{Values}
use Rattle.plain_machine.specs.Spelling.{row_part, counted}
use Rattle.channel_state.proofs.write.put_tables.Given as goal

abbrev pub invariant-loop-table : goal.invariant-loop-table
invariant-loop-table l = l.out.items ≡ l.fn.out.items ++ flat_map (λ (table : Values). counted row_part (entries table)) (take l.table-index l.tables)
