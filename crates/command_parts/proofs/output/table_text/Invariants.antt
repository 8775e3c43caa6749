use Rattle.std.proofs.Common.{◌≡◌, ◌++◌, drop}
use Rattle.std.specs.Prelude.{flat_map}
use Rattle.flow_defs.specs.Rows.{row_pairs}
use Rattle.flow_defs.specs.Tables.{row_text, table_text}
use Rattle.command_parts.proofs.output.table_text.Given as goal

-- the text so far, and then that of the rows that are left
abbrev pub invariant-loop-row : goal.invariant-loop-row
invariant-loop-row l = l.text.items ++ flat_map row_text (row_pairs (drop l.row-index l.row-items)) ≡ table_text l.table
