-- A tally by count has counted each record.
use Rattle.std.proofs.Common.{◌≡◌, ℕ, ◌+◌, ◌%◌, Bool, true, false, cond, List, [], ◌∷◌, length, Option, Some, None, refl, sym, ap, subst, ◌∙◌, arith}
use Rattle.std.specs.Prelude.{◌&&◌, ◌^◌, T, flat_map, sum_by, unwrap_or}
use Rattle.std.specs.declared.cmp.Ordering.{Ordering}
use Rattle.std.specs.declared.cmp.Ordering.TheVariants.{Less, Equal, Greater}
use Rattle.std.specs.Ordering.{is_lt, is_eq}
use Rattle.std.specs.FinMap.{entries, empty, get, entries-insert, entries_sorted, get-entries}
use Rattle.std.specs.FinMap.Entries.{by_order, put, find, below_all, is_sorted}
use Rattle.std.proofs.lemmas.Cmp.{nat_list_cmp_total}
use Rattle.std.proofs.lemmas.List.Sums.{sum_by-cons}
use Rattle.flow_defs.specs.declared.job.AggKind.{AggKind}
use Rattle.flow_defs.specs.declared.job.AggKind.TheVariants.{Count}
use Rattle.flow_defs.specs.Jobs.{last_edge, tasks}
use Rattle.flow_defs.specs.Tables.{Values, key_cmp, add, add_all, table_of}
use Rattle.plain_machine.specs.Worth.{reach, concat_below}
use Rattle.plain_machine.specs.SizeTheorems.{TallyCountsRecords}
use Rattle.plain_machine.proofs.KeySums.{entries-empty}

abbrev Rows : Type 0
Rows = List (List ℕ × ℕ)

abbrev values_of : Rows → ℕ
values_of rows = sum_by (λ (row : List ℕ × ℕ). row.1) rows

values-cons : (row : List ℕ × ℕ) (rows : Rows) → values_of (row ∷ rows) ≡ row.1 + values_of rows
values-cons row rows = sum_by-cons (λ (row : List ℕ × ℕ). row.1) row rows

-- ---- a key that stands before all others is none of them

both : (a b : Bool) → T a → T b → T (a && b)
both true b p q = q
both false b p q = p

first : (a b : Bool) → T (a && b) → T a
first true b p = tt
first false b p = p

second : (a b : Bool) → T (a && b) → T b
second true b p = p
second false b p = absurd p

less : (o : Ordering) → T (is_lt o) → o ≡ Less
less Less p = refl
less Equal p = absurd p
less Greater p = absurd p

below_none : (k : List ℕ) (rows : Rows) → T (below_all key_cmp k rows) → find key_cmp k rows ≡ None
below_none k [] below = refl
below_none k (row ∷ rows) below = ap (λ r. cond (is_eq r) (Some row.1) (find key_cmp k rows)) (less (key_cmp k row.0) (first _ _ below)) ∙ below_none k rows (second _ _ below)

below_too : (k l : List ℕ) (rows : Rows) → key_cmp k l ≡ Less → T (below_all key_cmp l rows) → T (below_all key_cmp k rows)
below_too k l [] before below = tt
below_too k l (row ∷ rows) before below =
    both _ _ (subst (λ r. T (is_lt r)) (sym (nat_list_cmp_total.trans k l row.0 before (less (key_cmp l row.0) (first _ _ below)))) tt) (below_too k l rows before (second _ _ below))

-- ---- the values with one of them put in

values-put : (k : List ℕ) (v : ℕ) (rows : Rows) → T (is_sorted key_cmp rows) → values_of (put key_cmp k v rows) + unwrap_or (find key_cmp k rows) 0 ≡ values_of rows + v
values-put k v [] sorted = let one = values-cons (k, v) [] in omega (arith, one)
values-put k v (row ∷ rows) sorted =
    elim (key_cmp k row.0) as (λ r. key_cmp k row.0 ≡ r → values_of (by_order r ((k, v) ∷ row ∷ rows) ((row.0, v) ∷ rows) (row ∷ put key_cmp k v rows)) + unwrap_or (cond (is_eq r) (Some row.1) (find key_cmp k rows)) 0 ≡ values_of (row ∷ rows) + v) [
      | Less ↦ λ p.
          let none = ap (λ (o : Option ℕ). unwrap_or o 0) (below_none k rows (below_too k row.0 rows p (first _ _ sorted))) in
          let one = values-cons (k, v) (row ∷ rows) in
          omega (arith, none, one)
      | Equal ↦ λ p.
          let one = values-cons (row.0, v) rows in
          let all = values-cons row rows in
          omega (arith, one, all)
      | Greater ↦ λ p.
          let deep : values_of (put key_cmp k v rows) + unwrap_or (find key_cmp k rows) 0 ≡ values_of rows + v = values-put k v rows (second _ _ sorted) in
          let one = values-cons row (put key_cmp k v rows) in
          let all = values-cons row rows in
          omega (arith, deep, one, all)
    ] refl

counts_one : (table : Values) (r : List ℕ) → values_of (entries (add Count table r)) % 2 ^ 64 ≡ (values_of (entries table) + 1) % 2 ^ 64
counts_one table r =
    let old = unwrap_or (get table r) 0 in
    let new = (old + 1) % 2 ^ 64 in
    let rows = ap values_of (entries-insert {X = ℕ} nat_list_cmp_total table r new) in
    let sum = values-put r new (entries table) (entries_sorted table) in
    let was = ap (λ (o : Option ℕ). unwrap_or o 0) (get-entries table r) in
    omega (arith, rows, sum, was)

counts_all : (table : Values) (records : List (List ℕ)) → values_of (entries (add_all Count table records)) % 2 ^ 64 ≡ (values_of (entries table) + length records) % 2 ^ 64
counts_all table [] = omega arith
counts_all table (r ∷ records) =
    let deep = counts_all (add Count table r) records in
    let one = counts_one table r in
    omega (arith, deep, one)

pub tally_counts_records : TallyCountsRecords
tally_counts_records job lines count =
    let records = flat_map (reach job 0 (last_edge job)) (concat_below (tasks job 0) lines) in
    let all = counts_all empty records in
    let none = ap values_of entries-empty in
    ap (λ (agg : AggKind). values_of (entries (table_of agg records)) % 2 ^ 64) count ∙ omega (arith, all, none)
