use Rattle.std.proofs.Common.{◌≡◌, ◌++◌, take}
use Rattle.std.specs.Prelude.{flat_map}
use Rattle.flow_defs.specs.Rows.{row_pair}
use Rattle.flow_defs.specs.declared.table.Row.{Row}
use Rattle.plain_machine.specs.Spelling.{row_part}
use Rattle.channel_state.proofs.write.put_rows.Given as goal

abbrev pub invariant-loop-row : goal.invariant-loop-row
invariant-loop-row l = l.out.items ≡ l.fn.out.items ++ flat_map (λ (row : Row). row_part (row_pair row)) (take l.row-index l.rows)
