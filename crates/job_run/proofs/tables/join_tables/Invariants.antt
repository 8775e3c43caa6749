use Rattle.std.proofs.Common.{◌≡◌, take}
use Rattle.job_plan.specs.Joins.{lent_pairs}
use Rattle.job_run.proofs.Joining.{rows_in}
use Rattle.job_run.proofs.tables.join_tables.Given as goal

abbrev pub invariant-loop-table : goal.invariant-loop-table
invariant-loop-table l = lent_pairs l.rows.items ≡ rows_in (take l.table-index l.tables)
