use Rattle.std.proofs.Common.{◌++◌, ◌∷◌, [], List, ℕ, sym, ap, ◌∙◌, arith, append_assoc, take}
use Rattle.flow_defs.specs.Rows.{row_pair, row_pairs}
use Rattle.job_plan.specs.Joins.{lent_pairs}
use Rattle.job_plan.proofs.JoinLemmas.{one_lent, one_row}
use Rattle.job_plan.proofs.joins.lend_rows.Goals as goal

pub loop-row-preserved : goal.loop-row-preserved
loop-row-preserved c =
    let more = one_row c.args.table.now c.loop-row.row-index c.row-item.result (omega arith) c.row-item.is in
    ap lent_pairs c.in_ok-push.ensures.items
    ∙ one_lent c.loop-row.rows.items _
    ∙ ap (λ (l : List (List ℕ × ℕ)). l ++ row_pair c.row-item.result ∷ []) c.loop-row.invariant
    ∙ append_assoc (lent_pairs c.args.rows.now.items) (row_pairs (take c.loop-row.row-index c.args.table.now)) (row_pair c.row-item.result ∷ [])
    ∙ ap (λ (l : List (List ℕ × ℕ)). lent_pairs c.args.rows.now.items ++ l) (sym more)
