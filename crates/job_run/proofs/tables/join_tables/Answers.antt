use Rattle.std.proofs.Common.{◌≡◌, ◌++◌, List, ℕ, sym, ap, ◌∙◌, arith}
use Rattle.std.proofs.lemmas.List.{take_all}
use Rattle.std.proofs.lemmas.Result.{IfOk-weaker}
use Rattle.std.specs.FinMap.{empty, entries}
use Rattle.flow_defs.specs.Tables.{Values, add_values, join}
use Rattle.job_plan.specs.Joins.{lent_pairs}
use Rattle.job_run.proofs.Joining.{rows_in, tables_more}
use Rattle.job_run.proofs.tables.join_tables.Goals as goal

pub loop-table-preserved : goal.loop-table-preserved
loop-table-preserved c =
    let more = tables_more c.args.tables.now c.loop-table.table-index c.table-item.result (omega arith) c.table-item.is in
    c.in_ok-lend_rows.ensures
    ∙ ap (λ (l : List (List ℕ × ℕ)). lent_pairs c.loop-table.rows.items ++ l) c.rows.ensures
    ∙ ap (λ (l : List (List ℕ × ℕ)). l ++ entries c.table-item.result) c.loop-table.invariant
    ∙ sym more

pub returns : goal.returns
returns c =
    let all : lent_pairs c.as_mut_slice.result.now ≡ rows_in c.args.tables.now =
    ap lent_pairs c.as_mut_slice.ensures.value
    ∙ c.loop-table.invariant
    ∙ ap rows_in (take_all c.loop-table.table-index c.args.tables.now c.loop-table-test.false) in
    IfOk-weaker c.fold_rows.result
    (λ (table : Values). table ≡ add_values c.args.agg empty (lent_pairs c.as_mut_slice.result.now))
    (λ (table : Values). table ≡ join c.args.agg c.args.tables.now)
    (λ table is. is ∙ ap (λ (l : List (List ℕ × ℕ)). add_values c.args.agg empty l) all) c.fold_rows.ensures
