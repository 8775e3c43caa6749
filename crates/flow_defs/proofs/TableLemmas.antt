-- The rows of a table around the place that a binary search by a key ends at.
use Rattle.std.proofs.Common.{◌≡◌, ℕ, zero, suc, ◌<◌, ◌≤◌, Bool, true, false, cond, T, ◌&&◌, List, [], ◌∷◌, length, get_or, Some, None, Ordering, Less, Equal, Greater, refl, sym, ap, subst, ◌∙◌, arith, set, inl, inr}
use Rattle.std.specs.Prelude.{insert}
use Rattle.std.specs.FinMap as map
use Rattle.std.specs.FinMap.{is_sorted, find, from_sorted, entries, empty, get, same_entries_map, entries-insert, entries-from_sorted, get-from_sorted, empty_of_len, len-entries}
use Rattle.std.specs.FinMap.Entries.{put, below_all, by_order, is_sorted-put}
use Rattle.std.specs.Ordering.{is_eq, is_lt, ordering_reverse, ordering_index}
use Rattle.std.proofs.lemmas.Bool.{cases_lt}
use Rattle.std.proofs.lemmas.Cmp.{nat_list_cmp_total, alike_right}
use Rattle.flow_defs.specs.declared.table.Row.{Row}
use Rattle.flow_defs.specs.Tables.{key_cmp}
use Rattle.flow_defs.specs.Rows.{row_pair, row_pairs, IsSortedByKeys}

-- how a row's key stands to this key
abbrev pub order_at : List ℕ → Row → Ordering
order_at key row = key_cmp row.key.items key

-- ---- the map of rows in order

passes : {b : Bool} → b ≡ true → T b
passes is = subst T (sym is) tt

pub no_rows : from_sorted {R = key_cmp} (row_pairs []) ≡ empty
no_rows = empty_of_len (from_sorted []) (len-entries (from_sorted []) ∙ ap length (entries-from_sorted key_cmp [] tt))

pub entries_of_rows : (rows : List Row) → IsSortedByKeys (row_pairs rows) → entries (from_sorted {R = key_cmp} (row_pairs rows)) ≡ row_pairs rows
entries_of_rows rows sorted = entries-from_sorted key_cmp (row_pairs rows) (passes sorted)

pub get_of_rows : (rows : List Row) (key : List ℕ) → IsSortedByKeys (row_pairs rows) → get (from_sorted {R = key_cmp} (row_pairs rows)) key ≡ find key_cmp key (row_pairs rows)
get_of_rows rows key sorted = get-from_sorted key_cmp (row_pairs rows) key (passes sorted)

-- ---- the order of keys

turned : (x y : List ℕ) (o : Ordering) → key_cmp x y ≡ o → key_cmp y x ≡ ordering_reverse o
turned x y o is = nat_list_cmp_total.antisymm y x ∙ ap ordering_reverse is

is_less : (o : Ordering) → T (is_lt o) → o ≡ Less
is_less Less t = refl
is_less Equal t = absurd t
is_less Greater t = absurd t

left_of : (a b : Bool) → T (a && b) → T a
left_of true b t = tt
left_of false b t = absurd t

right_of : (a b : Bool) → T (a && b) → T b
right_of true b t = t
right_of false b t = absurd t

above_at : (x : List ℕ) (rows : List Row) (i : ℕ) (d : Row) → T (below_all key_cmp x (row_pairs rows)) → i < length rows → key_cmp x (get_or rows i d).key.items ≡ Less
above_at x [] i d below in_range = absurd (omega arith)
above_at x (row ∷ rows) zero d below in_range = is_less _ (left_of _ _ below)
above_at x (row ∷ rows) (suc i) d below in_range = above_at x rows i d (right_of _ _ below) (omega arith)

rise_at : (rows : List Row) (i j : ℕ) (d : Row) → T (is_sorted key_cmp (row_pairs rows)) → i < j → j < length rows → key_cmp (get_or rows i d).key.items (get_or rows j d).key.items ≡ Less
rise_at [] i j d sorted lt in_range = absurd (omega arith)
rise_at (row ∷ rows) i zero d sorted lt in_range = absurd (omega arith)
rise_at (row ∷ rows) zero (suc j) d sorted lt in_range = above_at row.key.items rows j d (left_of _ _ sorted) (omega arith)
rise_at (row ∷ rows) (suc i) (suc j) d sorted lt in_range = rise_at rows i j d (right_of (below_all key_cmp row.key.items (row_pairs rows)) _ sorted) (omega arith) (omega arith)

index_most : (o : Ordering) → ordering_index o ≤ 2
index_most Less = omega arith
index_most Equal = omega arith
index_most Greater = omega arith

index_rises : (a b key : List ℕ) (o : Ordering) → key_cmp b key ≡ o → key_cmp a b ≡ Less → ordering_index (key_cmp a key) ≤ ordering_index o
index_rises a b key Less is less = subst (λ o. ordering_index o ≤ ordering_index Less) (sym (nat_list_cmp_total.trans a b key less is)) (omega arith)
index_rises a b key Equal is less = subst (λ o. ordering_index o ≤ ordering_index Equal) (sym (sym (alike_right nat_list_cmp_total b key a is) ∙ less)) (omega arith)
index_rises a b key Greater is less = index_most (key_cmp a key)

-- rows in order stand around a key in order, as a binary search asks
pub rises_around : (key : List ℕ) (rows : List Row) → IsSortedByKeys (row_pairs rows) → (i j : ℕ) (d : Row) → i ≤ j → j < length rows → ordering_index (order_at key (get_or rows i d)) ≤ ordering_index (order_at key (get_or rows j d))
rises_around key rows sorted i j d le in_range = elim (cases_lt i j) [
  | inl less ↦ index_rises (get_or rows i d).key.items (get_or rows j d).key.items key _ refl (rise_at rows i j d (passes sorted) less in_range)
  | inr more ↦ let same : i ≡ j = omega arith in subst (λ k. ordering_index (order_at key (get_or rows i d)) ≤ ordering_index (order_at key (get_or rows k d))) same (omega arith)
]

-- ---- the key's row, and its value

module _ (key : List ℕ) (value : ℕ) where
  found_first : (row : Row) (rows : List Row) → order_at key row ≡ Equal → (find key_cmp key (row_pairs (row ∷ rows)) ≡ Some row.value) × (put key_cmp key value (row_pairs (row ∷ rows)) ≡ (row.key.items, value) ∷ row_pairs rows)
  found_first row rows here =
      let is : key_cmp key row.key.items ≡ Equal = turned row.key.items key Equal here in (
        ap (λ (o : Ordering). cond (is_eq o) (Some row.value) (find key_cmp key (row_pairs rows))) is,
        ap (λ o. by_order o ((key, value) ∷ row_pairs (row ∷ rows)) ((row.key.items, value) ∷ row_pairs rows) (row_pair row ∷ put key_cmp key value (row_pairs rows))) is,
      )

  found_later : (row : Row) (rows : List Row) → order_at key row ≡ Less → (find key_cmp key (row_pairs (row ∷ rows)) ≡ find key_cmp key (row_pairs rows)) × (put key_cmp key value (row_pairs (row ∷ rows)) ≡ row_pair row ∷ put key_cmp key value (row_pairs rows))
  found_later row rows less =
      let is : key_cmp key row.key.items ≡ Greater = turned row.key.items key Less less in (
        ap (λ (o : Ordering). cond (is_eq o) (Some row.value) (find key_cmp key (row_pairs rows))) is,
        ap (λ o. by_order o ((key, value) ∷ row_pairs (row ∷ rows)) ((row.key.items, value) ∷ row_pairs rows) (row_pair row ∷ put key_cmp key value (row_pairs rows))) is,
      )

  -- where the row at i has the key, its value is the key's, and a new value in it is put at the key
  pub found_at : (rows : List Row) (i : ℕ) (d : Row) → T (is_sorted key_cmp (row_pairs rows)) → i < length rows → order_at key (get_or rows i d) ≡ Equal
      → (find key_cmp key (row_pairs rows) ≡ Some (get_or rows i d).value) × (put key_cmp key value (row_pairs rows) ≡ row_pairs (set rows i (record { key = (get_or rows i d).key; value = value })))
  found_at [] i d sorted in_range here = absurd (omega arith)
  found_at (row ∷ rows) zero d sorted in_range here = found_first row rows here
  found_at (row ∷ rows) (suc i) d sorted in_range here =
      let less : key_cmp row.key.items key ≡ Less = sym (alike_right nat_list_cmp_total (get_or rows i d).key.items key row.key.items here) ∙ above_at row.key.items rows i d (left_of _ _ sorted) (omega arith) in
      let rest = found_at rows i d (right_of (below_all key_cmp row.key.items (row_pairs rows)) _ sorted) (omega arith) here in
      let later = found_later row rows less in
      (later.0 ∙ rest.0, later.1 ∙ ap (λ l. row_pair row ∷ l) rest.1)

  -- where the rows before i have lower keys and the others higher ones, the key has no value, and a row for it goes to i
  pub absent_at : (rows : List Row) (i : ℕ) → i ≤ length rows → ((k : ℕ) (d : Row) → k < i → order_at key (get_or rows k d) ≡ Less) → ((k : ℕ) (d : Row) → i ≤ k → k < length rows → order_at key (get_or rows k d) ≡ Greater)
      → (find key_cmp key (row_pairs rows) ≡ None) × ((row : Row) → row_pair row ≡ (key, value) → put key_cmp key value (row_pairs rows) ≡ row_pairs (insert rows i row))
  absent_at [] zero in_range below above = (refl, λ row is. ap (λ p. p ∷ []) (sym is))
  absent_at [] (suc i) in_range below above = absurd (omega arith)
  absent_at (row ∷ rows) zero in_range below above =
      let is : key_cmp key row.key.items ≡ Less = turned row.key.items key Greater (above 0 row (omega arith) (omega arith)) in
      let rest = absent_at rows zero (omega arith) (λ k d lt. absurd (omega arith)) (λ k d le lt. above (suc k) d (omega arith) (omega arith)) in (
        ap (λ (o : Ordering). cond (is_eq o) (Some row.value) (find key_cmp key (row_pairs rows))) is ∙ rest.0,
        λ new new_is. ap (λ o. by_order o ((key, value) ∷ row_pairs (row ∷ rows)) ((row.key.items, value) ∷ row_pairs rows) (row_pair row ∷ put key_cmp key value (row_pairs rows))) is ∙ ap (λ p. p ∷ row_pairs (row ∷ rows)) (sym new_is),
      )
  absent_at (row ∷ rows) (suc i) in_range below above =
      let rest = absent_at rows i (omega arith) (λ k d lt. below (suc k) d (omega arith)) (λ k d le lt. above (suc k) d (omega arith) (omega arith)) in
      let later = found_later row rows (below 0 row (omega arith)) in
      (later.0 ∙ rest.0, λ new new_is. later.1 ∙ ap (λ l. row_pair row ∷ l) (rest.1 new new_is))

-- ---- what a binary search by the key finds

module _ (rows now : List Row) (key : List ℕ) (value : ℕ) (sorted : IsSortedByKeys (row_pairs rows)) (same : now ≡ rows) where
  pub searched_found : (i : ℕ) (row : Row) → i < length now → row ≡ get_or rows i row → ((d : Row) → order_at key (get_or now i d) ≡ Equal)
      → (find key_cmp key (row_pairs rows) ≡ Some row.value) × (put key_cmp key value (row_pairs rows) ≡ row_pairs (set rows i (record { key = row.key; value = value })))
  searched_found i row in_range row_is here =
      let found = found_at key value rows i row (passes sorted) (subst (λ xs. i < length xs) same in_range) (ap (λ xs. order_at key (get_or xs i row)) (sym same) ∙ here row) in
      (found.0 ∙ ap (λ (r : Row). Some r.value) (sym row_is), found.1 ∙ ap (λ (r : Row). row_pairs (set rows i (record { key = r.key; value = value }))) (sym row_is))

  pub searched_absent : (i : ℕ) → i ≤ length now
      → (((a b : ℕ) (d : Row) → a ≤ b → b < length now → ordering_index (order_at key (get_or now a d)) ≤ ordering_index (order_at key (get_or now b d)))
      → ((k : ℕ) (d : Row) → 0 ≤ k → k < i → order_at key (get_or now k d) ≡ Less) × ((k : ℕ) (d : Row) → i ≤ k → k < length now → order_at key (get_or now k d) ≡ Greater))
      → (find key_cmp key (row_pairs rows) ≡ None) × ((row : Row) → row_pair row ≡ (key, value) → put key_cmp key value (row_pairs rows) ≡ row_pairs (insert rows i row))
  searched_absent i in_range around =
      let parts = around (subst (λ xs. (a b : ℕ) (d : Row) → a ≤ b → b < length xs → ordering_index (order_at key (get_or xs a d)) ≤ ordering_index (order_at key (get_or xs b d))) (sym same) (rises_around key rows sorted)) in
      absent_at key value rows i (subst (λ xs. i ≤ length xs) same in_range)
      (λ k d lt. ap (λ xs. order_at key (get_or xs k d)) (sym same) ∙ parts.0 k d (omega arith) lt)
      (λ k d le lt. ap (λ xs. order_at key (get_or xs k d)) (sym same) ∙ parts.1 k d le (subst (λ xs. k < length xs) (sym same) lt))

-- ---- rows that are the old ones with a value put at a key are the old map with that value

holds : (b : Bool) → T b → b ≡ true
holds true t = refl
holds false t = absurd t

pub sorted_after : (rows new : List Row) (key : List ℕ) (value : ℕ) → IsSortedByKeys (row_pairs rows) → put key_cmp key value (row_pairs rows) ≡ row_pairs new → IsSortedByKeys (row_pairs new)
sorted_after rows new key value sorted is =
    subst (λ es. is_sorted key_cmp es ≡ true) is (holds _ (is_sorted-put key_cmp nat_list_cmp_total key value (row_pairs rows) (passes sorted)))

pub table_after : (rows new : List Row) (key : List ℕ) (value : ℕ) → IsSortedByKeys (row_pairs rows) → put key_cmp key value (row_pairs rows) ≡ row_pairs new → from_sorted {R = key_cmp} (row_pairs new) ≡ map.insert (from_sorted {R = key_cmp} (row_pairs rows)) key value
table_after rows new key value sorted is =
    same_entries_map _ _ (
    entries_of_rows new (sorted_after rows new key value sorted is)
    ∙ sym (entries-insert nat_list_cmp_total (from_sorted (row_pairs rows)) key value ∙ ap (put key_cmp key value) (entries_of_rows rows sorted) ∙ is))
