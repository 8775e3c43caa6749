use Rattle.std.proofs.Common.{List, ap, ◌∙◌, arith}
use Rattle.std.proofs.lemmas.List.{take_all}
use Rattle.std.specs.FinMap.{empty}
use denote.Ref.{Bor}
use Rattle.flow_defs.specs.declared.table.Row.{Row}
use Rattle.flow_defs.specs.Tables.{add_values}
use Rattle.job_plan.specs.Joins.{lent_pairs}
use Rattle.job_plan.proofs.JoinLemmas.{one_folded, pairs_shuffled}
use Rattle.job_plan.proofs.joins.fold_rows.Goals as goal

pub loop-row-preserved : goal.loop-row-preserved
loop-row-preserved c =
    let more = one_folded c.args.agg empty c.sort_by.new.self c.loop-row.row-index c.row-item.result (omega arith) c.row-item.is in
    cc (more, c.in_ok-add_row.ensures, c.loop-row.invariant)

pub returns : goal.returns
returns c =
    let rows = c.sort_by.new.self in
    c.loop-row.invariant
    ∙ ap (λ (l : List (Bor Row)). add_values c.args.agg empty (lent_pairs l)) (take_all c.loop-row.row-index rows c.loop-row-test.false)
    ∙ c.tally_in_parts.ensures.any_order c.args.agg empty (lent_pairs c.args.rows.now) (lent_pairs rows) (pairs_shuffled c.args.rows.now rows c.in_ok-sort_by.ensures.permutation)
