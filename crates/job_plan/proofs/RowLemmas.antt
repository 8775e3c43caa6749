-- The rows of a table, counted one after another.
use Rattle.std.proofs.Common.{◌≡◌, ℕ, zero, suc, ◌+◌, ◌<◌, Bool, true, false, cond, T, ◌&&◌, List, [], ◌∷◌, length, take, get_or, Some, None, Ordering, Less, Equal, Greater, refl, sym, ap, subst, ◌∙◌, arith}
use Rattle.std.specs.FinMap.{is_sorted, find, insert, entries, from_entries, entries_sorted, same_map, get-entries, get-from_entries, from_entries_push, slice_cmp-IsAntisymmetric, nat_cmp-IsAntisymmetric}
use Rattle.std.specs.FinMap.Entries.{below_all}
use Rattle.std.specs.Ordering.{is_eq, is_lt, ordering_reverse, eq_by_cmp}
use Rattle.std.proofs.lemmas.Cmp.{nat_list_cmp_total}
use Rattle.flow_defs.specs.declared.table.Row.{Row}
use Rattle.flow_defs.specs.Rows.{row_pairs}
use Rattle.flow_defs.specs.Tables.{Values, key_cmp}
use Rattle.job_plan.proofs.JoinLemmas.{one_row}

left_of : (a b : Bool) → T (a && b) → T a
left_of true b t = tt
left_of false b t = absurd t

right_of : (a b : Bool) → T (a && b) → T b
right_of true b t = t
right_of false b t = absurd t

is_less : (o : Ordering) → T (is_lt o) → o ≡ Less
is_less Less t = refl
is_less Equal t = absurd t
is_less Greater t = absurd t

-- a key is below that of each row behind it
below_at : (key : List ℕ) (rows : List Row) (i : ℕ) (d : Row) → T (below_all key_cmp key (row_pairs rows)) → i < length rows → key_cmp key (get_or rows i d).key.items ≡ Less
below_at key [] i d below low = absurd (omega arith)
below_at key (row ∷ rows) zero d below low = is_less _ (left_of _ _ below)
below_at key (row ∷ rows) (suc i) d below low = below_at key rows i d (right_of _ _ below) (omega arith)

-- so no row before has the key of one behind
none_before : (rows : List Row) (i : ℕ) (row : Row) → T (is_sorted key_cmp (row_pairs rows)) → i < length rows → row ≡ get_or rows i row → find key_cmp row.key.items (row_pairs (take i rows)) ≡ None
none_before [] i row sorted low is = absurd (omega arith)
none_before (r ∷ rows) zero row sorted low is = refl
none_before (r ∷ rows) (suc i) row sorted low is =
    let less : key_cmp r.key.items row.key.items ≡ Less =
    ap (λ (x : Row). key_cmp r.key.items x.key.items) is ∙ below_at r.key.items rows i row (left_of _ _ sorted) (omega arith) in
    let apart : eq_by_cmp key_cmp row.key.items r.key.items ≡ false = ap is_eq (nat_list_cmp_total.antisymm row.key.items r.key.items ∙ ap ordering_reverse less) in
    ap (λ b. cond b (Some r.value) (find key_cmp row.key.items (row_pairs (take i rows)))) apart
    ∙ none_before rows i row (right_of (below_all key_cmp r.key.items (row_pairs rows)) _ sorted) (omega arith) is

-- the rows up to one more are its value put in
pub one_put : (table : Values) (rows : List Row) (i : ℕ) (row : Row) → row_pairs rows ≡ entries table → i < length rows → row ≡ get_or rows i row
    → from_entries {R = key_cmp} (row_pairs (take (i + 1) rows)) ≡ insert (from_entries (row_pairs (take i rows))) row.key.items row.value
one_put table rows i row are low is =
    let sorted = subst (λ (pairs : List (List ℕ × ℕ)). T (is_sorted key_cmp pairs)) (sym are) (entries_sorted table) in
    ap (λ (pairs : List (List ℕ × ℕ)). from_entries {R = key_cmp} pairs) (one_row rows i row low is)
    ∙ from_entries_push nat_list_cmp_total (slice_cmp-IsAntisymmetric nat_cmp-IsAntisymmetric) (row_pairs (take i rows)) row.key.items row.value (none_before rows i row sorted low is)

-- all rows of a table are the table
pub all_put : (table : Values) (rows : List Row) → row_pairs rows ≡ entries table → from_entries {R = key_cmp} (row_pairs rows) ≡ table
all_put table rows are =
    ap (λ (pairs : List (List ℕ × ℕ)). from_entries {R = key_cmp} pairs) are
    ∙ same_map nat_list_cmp_total (slice_cmp-IsAntisymmetric nat_cmp-IsAntisymmetric) _ _ (λ key.
    get-from_entries nat_list_cmp_total (entries table) key ∙ sym (get-entries table key))
