use Rattle.std.proofs.Common.{◌≡◌, take}
use Rattle.std.specs.FinMap.{from_entries}
use Rattle.flow_defs.specs.Rows.{row_pairs}
use Rattle.job_plan.specs.Entries.{entry_values}
use Rattle.job_plan.proofs.counts.Counts.of_table.Given as goal

-- the rows so far are counted
abbrev pub invariant-loop-row : goal.invariant-loop-row
invariant-loop-row l = entry_values l.numbers.entries ≡ from_entries (row_pairs (take l.row-index l.rows))
