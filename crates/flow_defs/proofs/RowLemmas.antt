-- Rows in any order, and the same rows in the order of their keys.
use Rattle.std.proofs.Common.{◌≡◌, ℕ, zero, suc, ◌+◌, ◌<◌, Bool, true, false, cond, ◌&&◌, List, [], ◌∷◌, length, get_or, Option, Some, None, Ordering, Less, Equal, Greater, refl, sym, ap, ◌∙◌, arith}
use Rattle.std.specs.FinMap.{is_sorted, find, from_sorted, from_entries, same_map, get-from_entries, slice_cmp-IsAntisymmetric, nat_cmp-IsAntisymmetric}
use Rattle.std.specs.FinMap.Entries.{below_all}
use Rattle.std.specs.Cmp.{IsEquivalence}
use Rattle.std.specs.Fn.{Called}
use Rattle.std.specs.List.{AllByRecursion}
use Rattle.std.specs.List.Sorted.{IsPermutation, IsSortedBy, IsSortedByClosure, IsStrictlySortedBy}
use Rattle.std.specs.Map.{keys_of, lookup}
use Rattle.std.specs.Ordering.{eq_by_cmp, is_eq, is_lt, ordering_reverse}
use Rattle.std.proofs.lemmas.Cmp.{nat_list_cmp_total, eq_by_cmp_equiv}
use Rattle.std.proofs.lemmas.Fn.{always_returns_same}
use Rattle.std.proofs.lemmas.List.Sorted.{IsPermutation-map, IsPermutation-sym, Contains-permutation, ranks_by}
use Rattle.std.proofs.lemmas.Map.Keys.{IsDistinct-IsPermutation, apart_from_distinct, sorted_from_all_adjacent, sorted_head, sorted_tail}
use Rattle.std.proofs.lemmas.Map.Views.{Contains-from_lookup, lookup-from_Contains}
use denote.Param.Members.{Mut}
use denote.Ref.{Bor}
use Rattle.flow_defs.specs.declared.table.Row.{Row}
use Rattle.flow_defs.specs.Tables.{key_cmp}
use Rattle.flow_defs.specs.Rows.{row_pair, row_pairs, IsSortedByKeys, HasDistinctKeys}
use Rattle.flow_defs.proofs.TableLemmas.{get_of_rows}

abbrev Pairs : Type 0
Pairs = List (List ℕ × ℕ)

abbrev same_key : List ℕ → List ℕ → Bool
same_key = eq_by_cmp key_cmp

ties : IsEquivalence same_key
ties = eq_by_cmp_equiv nat_list_cmp_total

is_equal : (o : Ordering) → is_eq o ≡ true → o ≡ Equal
is_equal Equal is = refl
is_equal Less is = cc
is_equal Greater is = cc

-- keys that the order does not tell apart are the same
exact : (k l : List ℕ) → same_key k l ≡ true → k ≡ l
exact k l is = slice_cmp-IsAntisymmetric nat_cmp-IsAntisymmetric k l (is_equal _ is)

-- ---- rows that change places find the same

distinct_moved : (pairs moved : Pairs) → IsPermutation pairs moved → HasDistinctKeys pairs → HasDistinctKeys moved
distinct_moved pairs moved same distinct =
    IsDistinct-IsPermutation same_key ties.symm (keys_of pairs) (keys_of moved) (IsPermutation-map (λ (e : List ℕ × ℕ). e.0) pairs moved same) distinct

find-lookup : (pairs : Pairs) (key : List ℕ) → find key_cmp key pairs ≡ lookup (same_key key) pairs
find-lookup [] key = refl
find-lookup (e ∷ pairs) key = ap (cond (same_key key e.0) (Some e.1)) (find-lookup pairs key)

found_moved : (pairs moved : Pairs) → IsPermutation pairs moved → HasDistinctKeys moved → (key : List ℕ) (n : ℕ) → lookup (same_key key) pairs ≡ Some n → lookup (same_key key) moved ≡ Some n
found_moved pairs moved same distinct key n found =
    lookup-from_Contains ties key n moved distinct (Contains-permutation pairs moved (key, n) same (Contains-from_lookup exact key n pairs found))

finds_moved : (pairs moved : Pairs) → IsPermutation pairs moved → HasDistinctKeys pairs → (key : List ℕ) → lookup (same_key key) pairs ≡ lookup (same_key key) moved
finds_moved pairs moved same distinct key =
    elim (lookup (same_key key) pairs) as (λ (r : Option ℕ). lookup (same_key key) pairs ≡ r → r ≡ lookup (same_key key) moved) [
      | Some n ↦ λ found. sym (found_moved pairs moved same (distinct_moved pairs moved same distinct) key n found)
      | None ↦ λ none. elim (lookup (same_key key) moved) as (λ (r : Option ℕ). lookup (same_key key) moved ≡ r → None ≡ r) [
        | Some n ↦ λ found. sym none ∙ found_moved moved pairs (IsPermutation-sym pairs moved same) distinct key n found
        | None ↦ λ _. refl
      ] refl
    ] refl

-- ---- distinct keys that do not fall rise

abbrev goes_before : Row → Row → Bool
goes_before a b = is_lt (key_cmp a.key.items b.key.items)

-- what a sort ensures whose closure compares the keys of two rows
pub ascends_from_sort : {F : Type 0} {g : Mut F (Bor Row × (Bor Row × Unit {0})) Ordering} {f : F} (rows : List Row) → IsSortedByClosure g f rows
    → ((a : Bor Row × (Bor Row × Unit {0})) (r : Ordering) (next : F) → Called g f a r next → (r ≡ key_cmp a.0.now.key.items a.1.0.now.key.items) × (next ≡ f)) → IsSortedBy goes_before rows
ascends_from_sort {g = g} {f = f} rows sorted calls =
    sorted goes_before (ranks_by nat_list_cmp_total (λ (row : Row). row.key.items)) (always_returns_same g _ f (λ a r next called. (ap is_lt (calls a r next called).0, (calls a r next called).1)))

length_keys : (rows : List Row) → length (keys_of (row_pairs rows)) ≡ length rows
length_keys [] = refl
length_keys (row ∷ rows) = ap suc (length_keys rows)

no_row : Row
no_row = record { key = record { items = []; room = 0 }; value = 0 }

key_at : (rows : List Row) (i : ℕ) → i < length rows → get_or (keys_of (row_pairs rows)) i [] ≡ (get_or rows i no_row).key.items
key_at [] i in_range = absurd (omega arith)
key_at (row ∷ rows) zero in_range = refl
key_at (row ∷ rows) (suc i) in_range = key_at rows i (omega arith)

is_less : (o : Ordering) → is_lt (ordering_reverse o) ≡ false → is_eq o ≡ false → o ≡ Less
is_less Less up apart = refl
is_less Equal up apart = cc
is_less Greater up apart = cc

rises : (k l : List ℕ) → is_lt (key_cmp l k) ≡ false → same_key k l ≡ false → key_cmp k l ≡ Less
rises k l up apart = is_less (key_cmp k l) (ap is_lt (sym (nat_list_cmp_total.antisymm l k)) ∙ up) apart

keys_rise : (rows : List Row) → IsSortedBy goes_before rows → HasDistinctKeys (row_pairs rows) → IsStrictlySortedBy key_cmp (keys_of (row_pairs rows))
keys_rise rows ascends distinct =
    let keys : List (List ℕ) = keys_of (row_pairs rows) in
    sorted_from_all_adjacent nat_list_cmp_total keys [] (λ i next.
    let in_range : i + 1 < length rows = omega (arith, length_keys rows) in
    let up : is_lt (key_cmp (get_or keys (i + 1) []) (get_or keys i [])) ≡ false =
    ap (λ (l : List ℕ). is_lt (key_cmp l (get_or keys i []))) (key_at rows (i + 1) in_range)
    ∙ ap (λ (l : List ℕ). is_lt (key_cmp (get_or rows (i + 1) no_row).key.items l)) (key_at rows i (omega arith))
    ∙ ascends i no_row (omega arith) in_range in
    rises (get_or keys i []) (get_or keys (i + 1) []) up (apart_from_distinct same_key keys i (i + 1) [] distinct (omega arith) next))

below_others : (key : List ℕ) (pairs : Pairs) → AllByRecursion (λ l. key_cmp key l ≡ Less) (keys_of pairs) → below_all key_cmp key pairs ≡ true
below_others key [] below = refl
below_others key (e ∷ pairs) below = ap (λ (o : Ordering). is_lt o && below_all key_cmp key pairs) below.0 ∙ below_others key pairs below.1

sorted_pairs : (pairs : Pairs) → IsStrictlySortedBy key_cmp (keys_of pairs) → IsSortedByKeys pairs
sorted_pairs [] rise = refl
sorted_pairs (e ∷ pairs) rise =
    ap (λ (b : Bool). b && is_sorted key_cmp pairs) (below_others e.0 pairs (sorted_head key_cmp e.0 (keys_of pairs) rise))
    ∙ sorted_pairs pairs (sorted_tail key_cmp e.0 (keys_of pairs) rise)

-- ---- rows with distinct keys, and the same rows sorted

module _ (rows sorted : List Row) (distinct : HasDistinctKeys (row_pairs rows)) (moved : IsPermutation rows sorted) (ascends : IsSortedBy goes_before sorted) where
  pairs_moved : IsPermutation (row_pairs rows) (row_pairs sorted)
  pairs_moved = IsPermutation-map row_pair rows sorted moved

  pub sorted_by_keys : IsSortedByKeys (row_pairs sorted)
  sorted_by_keys = sorted_pairs (row_pairs sorted) (keys_rise sorted ascends (distinct_moved (row_pairs rows) (row_pairs sorted) pairs_moved distinct))

  -- they are the map of the rows as they stood
  pub map_of_sorted : from_sorted {R = key_cmp} (row_pairs sorted) ≡ from_entries (row_pairs rows)
  map_of_sorted =
      same_map nat_list_cmp_total (slice_cmp-IsAntisymmetric nat_cmp-IsAntisymmetric) _ _ (λ key.
      get_of_rows sorted key sorted_by_keys
      ∙ find-lookup (row_pairs sorted) key
      ∙ sym (finds_moved (row_pairs rows) (row_pairs sorted) pairs_moved distinct key)
      ∙ sym (find-lookup (row_pairs rows) key)
      ∙ sym (get-from_entries nat_list_cmp_total (row_pairs rows) key))
