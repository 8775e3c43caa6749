use Rattle.std.proofs.Common.{◌≡◌, ◌++◌}
use Rattle.std.specs.FinMap.{from_entries}
use Rattle.flow_defs.specs.Rows.{row_pairs, HasDistinctKeys}
use Rattle.job_plan.specs.Entries.{entry_pairs}
use Rattle.job_plan.proofs.counts.Counts.to_table.Given as goal

-- the rows and the entries that are left have distinct keys, and are the map of all counts
abbrev pub invariant-loop-key : goal.invariant-loop-key
invariant-loop-key l = record {
  distinct : HasDistinctKeys (row_pairs l.rows.items ++ entry_pairs l.key-iterator);
  all : from_entries (row_pairs l.rows.items ++ entry_pairs l.key-iterator) ≡ l.fn.self;
}
