use Rattle.std.proofs.Common.{◌≡◌, take}
use Rattle.std.specs.FinMap.{empty}
use Rattle.flow_defs.specs.Tables.{add_values}
use Rattle.job_plan.specs.Joins.{lent_pairs}
use Rattle.job_plan.proofs.joins.fold_rows.Given as goal

abbrev pub invariant-loop-row : goal.invariant-loop-row
invariant-loop-row l = l.table ≡ add_values l.agg empty (lent_pairs (take l.row-index l.sorted))
