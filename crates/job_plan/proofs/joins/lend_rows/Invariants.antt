use Rattle.std.proofs.Common.{◌≡◌, ◌++◌, take}
use Rattle.flow_defs.specs.Rows.{row_pairs}
use Rattle.job_plan.specs.Joins.{lent_pairs}
use Rattle.job_plan.proofs.joins.lend_rows.Given as goal

abbrev pub invariant-loop-row : goal.invariant-loop-row
invariant-loop-row l = lent_pairs l.rows.items ≡ lent_pairs l.fn.rows.items ++ row_pairs (take l.row-index l.table)
