use Rattle.std.proofs.Common.{◌≡◌, ◌++◌, ℕ, List, ap, subst, ◌∙◌, sym}
use Rattle.std.specs.FinMap.{from_entries}
use Rattle.std.proofs.lemmas.List.{append-nil}
use Rattle.flow_defs.specs.declared.table.Row.{Row}
use Rattle.flow_defs.specs.Rows.{row_pairs, HasDistinctKeys}
use Rattle.flow_defs.specs.Tables.{key_cmp}
use Rattle.job_plan.specs.Entries.{entry_pairs}
use Rattle.job_plan.proofs.CountLemmas.{Key, distinct_pairs, one_copied}
use Rattle.job_plan.proofs.counts.Counts.to_table.Goals as goal

pub loop-key-init : goal.loop-key-init
loop-key-init c =
    let counted = c.self.inside.numbers.entries in
    let left = c.into_iter-key-iterator.result in
    let all_left : row_pairs c.in_ok-rows.rows.items ++ entry_pairs left ≡ entry_pairs counted =
    ap (λ (rows : List Row). row_pairs rows ++ entry_pairs left) c.in_ok-rows.ensures.items
    ∙ ap entry_pairs (c.into_iter-key-iterator.ensures.into_iter_gives ∙ c.iter-key-items.ensures.rest) in
    record {
      distinct = subst HasDistinctKeys (sym all_left) (distinct_pairs counted c.iter-key-items.ensures.unique);
      all = ap (λ (pairs : List (List ℕ × ℕ)). from_entries {R = key_cmp} pairs) all_left ∙ c.self.view_is;
    }

pub loop-key-preserved : goal.loop-key-preserved
loop-key-preserved c =
    let n = c.in-Some.number.now in
    let same : row_pairs c.push.new.self.items ++ entry_pairs c.next.new.self ≡ row_pairs c.loop-key.rows.items ++ entry_pairs c.loop-key.key-iterator =
    ap (λ (rows : List Row). row_pairs rows ++ entry_pairs c.next.new.self) c.in_ok-push.ensures.items
    ∙ one_copied c.loop-key.rows.items _ c.loop-key.key-iterator c.next.new.self _ n c.in-Some.ensures.steps (ap (λ (bytes : List ℕ). (bytes, n)) (c.in_ok-key.ensures ∙ c.as_slice.ensures)) in
    record {
      distinct = subst HasDistinctKeys (sym same) c.loop-key.invariant.distinct;
      all = ap (λ (pairs : List (List ℕ × ℕ)). from_entries {R = key_cmp} pairs) same ∙ c.loop-key.invariant.all;
    }

pub of_rows-requires : goal.of_rows-requires
of_rows-requires c =
    let rows = c.loop-key.rows.items in
    subst HasDistinctKeys (ap (λ (es : List (Key × ℕ)). row_pairs rows ++ entry_pairs es) c.in-None.ensures.steps.0 ∙ append-nil (row_pairs rows)) c.loop-key.invariant.distinct

pub returns : goal.returns
returns c =
    let rows = c.loop-key.rows.items in
    c.of_rows.ensures
    ∙ ap (λ (pairs : List (List ℕ × ℕ)). from_entries {R = key_cmp} pairs) (sym (ap (λ (es : List (Key × ℕ)). row_pairs rows ++ entry_pairs es) c.in-None.ensures.steps.0 ∙ append-nil (row_pairs rows)))
    ∙ c.loop-key.invariant.all
