use Rattle.std.proofs.Common.{ℕ, List, ap, sym, ◌∙◌, arith}
use Rattle.std.specs.FinMap.{from_entries, insert}
use Rattle.std.proofs.lemmas.List.{take_all}
use Rattle.flow_defs.specs.declared.table.Row.{Row}
use Rattle.flow_defs.specs.Rows.{row_pairs}
use Rattle.flow_defs.specs.Tables.{Values, key_cmp}
use Rattle.job_plan.specs.Entries.{entry_values}
use Rattle.job_plan.proofs.RowLemmas.{one_put, all_put}
use Rattle.job_plan.proofs.counts.Counts.of_table.Goals as goal

pub loop-row-preserved : goal.loop-row-preserved
loop-row-preserved c =
    let row = c.row-item.result in
    let rows = c.rows-rows.result.now in
    c.in_ok-put_new.ensures.ok
    ∙ ap (λ (key : List ℕ). insert (entry_values c.loop-row.numbers.entries) key row.value) (c.in_ok-key.ensures ∙ c.as_slice.ensures)
    ∙ ap (λ (t : Values). insert t row.key.items row.value) c.loop-row.invariant
    ∙ sym (one_put c.args.table.now rows c.loop-row.row-index row c.rows-rows.ensures (omega arith) c.row-item.is)

pub returns : goal.returns
returns c =
    let rows = c.rows-rows.result.now in
    c.loop-row.invariant
    ∙ ap (λ (l : List Row). from_entries {R = key_cmp} (row_pairs l)) (take_all c.loop-row.row-index rows c.loop-row-test.false)
    ∙ all_put c.args.table.now rows c.rows-rows.ensures
