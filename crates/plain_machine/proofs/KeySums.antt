-- What a table has at a key, as the fold of what was added there: a sum of optional values, where a key
-- that is missing has none.
use Rattle.std.proofs.Common.{◌≡◌, ℕ, Bool, true, false, cond, T, ◌&&◌, List, [], ◌∷◌, ◌++◌, Option, Some, None, Ordering, Less, Equal, Greater, refl, sym, ap, ◌∙◌}
use Rattle.std.specs.Prelude.{unwrap_or}
use Rattle.std.specs.FinMap.{len-entries, len-empty, empty, get-empty, entries, get, get-insert, get_tied, get-entries, entries_sorted, find, is_sorted}
use Rattle.std.specs.FinMap.Entries.{below_all}
use Rattle.std.specs.Ordering.{eq_by_cmp, is_eq, is_lt}
use Rattle.std.proofs.lemmas.Cmp.{nat_list_cmp_total}
use Rattle.std.proofs.lemmas.List.{map-append, nil_from_length}
use Rattle.std.proofs.lemmas.List.Concat.{flat_map-append}
use Rattle.std.specs.Prelude.{flat_map, map}
use Rattle.std.proofs.lemmas.Bool.{false≢true}
use Rattle.flow_defs.specs.Aggregates.{folded}
use Rattle.flow_defs.specs.Tables.{row_of, add_all, table_of, join, Values, key_cmp, add_value, add_values}
use Rattle.flow_defs.specs.declared.job.AggKind.{AggKind}
use Rattle.plain_machine.proofs.FoldLemmas.{folded-assoc, folded-comm, folded-zero, zero-folded}
use Rattle.plain_machine.specs.Worth.{concat_below}
use Rattle.plain_machine.proofs.Sums.{IsWeight, total, total-ext, weigh-concat_below, IsMonoid, unit_right}

abbrev pub same_key : List ℕ → List ℕ → Bool
same_key p q = eq_by_cmp key_cmp p q

-- two values of one key together, either of which may be missing
abbrev pub plus : AggKind → Option ℕ → Option ℕ → Option ℕ
plus agg None b = b
plus agg (Some a) None = Some a
plus agg (Some a) (Some b) = Some (folded agg a b)

pub plus_monoid : (agg : AggKind) → IsMonoid (plus agg) None
plus_monoid agg = record { unit = λ a. refl; assoc = grouped; comm = turned }
  where
    grouped : (a b c : Option ℕ) → plus agg (plus agg a b) c ≡ plus agg a (plus agg b c)
    grouped None b c = refl
    grouped (Some a) None c = refl
    grouped (Some a) (Some b) None = refl
    grouped (Some a) (Some b) (Some c) = ap Some (folded-assoc agg a b c)

    turned : (a b : Option ℕ) → plus agg a b ≡ plus agg b a
    turned None None = refl
    turned None (Some b) = refl
    turned (Some a) None = refl
    turned (Some a) (Some b) = ap Some (folded-comm agg a b)

-- what a row has at a key
abbrev pub share : AggKind → List ℕ → List ℕ × ℕ → Option ℕ
share agg q row = cond (same_key q row.0) (Some (folded agg 0 row.1)) None

-- what rows have at a key, together
abbrev pub total_at : AggKind → List ℕ → List (List ℕ × ℕ) → Option ℕ
total_at agg q [] = None
total_at agg q (row ∷ rows) = plus agg (share agg q row) (total_at agg q rows)

-- a value as a fold gives it
abbrev pub normal : AggKind → Option ℕ → Option ℕ
normal agg None = None
normal agg (Some v) = Some (folded agg 0 v)

normal-plus : (agg : AggKind) (a b : Option ℕ) → normal agg (plus agg a b) ≡ plus agg (normal agg a) (normal agg b)
normal-plus agg None b = refl
normal-plus agg (Some a) None = refl
normal-plus agg (Some a) (Some b) = ap Some (
    zero-folded agg a b
    ∙ folded-comm agg a b ∙ sym (folded-zero agg b a) ∙ folded-comm agg b (folded agg 0 a)
    ∙ sym (folded-zero agg (folded agg 0 a) b))

normal-share : (agg : AggKind) (q : List ℕ) (row : List ℕ × ℕ) → normal agg (share agg q row) ≡ share agg q row
normal-share agg q row = elim (same_key q row.0) as (λ b. normal agg (cond b (Some (folded agg 0 row.1)) None) ≡ cond b (Some (folded agg 0 row.1)) None) [
  | true ↦ ap Some (zero-folded agg 0 row.1)
  | false ↦ refl
]

normal-total_at : (agg : AggKind) (q : List ℕ) (rows : List (List ℕ × ℕ)) → normal agg (total_at agg q rows) ≡ total_at agg q rows
normal-total_at agg q [] = refl
normal-total_at agg q (row ∷ rows) =
    normal-plus agg (share agg q row) (total_at agg q rows)
    ∙ ap (λ x. plus agg x (normal agg (total_at agg q rows))) (normal-share agg q row)
    ∙ ap (plus agg (share agg q row)) (normal-total_at agg q rows)

pub total_at-append : (agg : AggKind) (q : List ℕ) (xs ys : List (List ℕ × ℕ)) → total_at agg q (xs ++ ys) ≡ plus agg (total_at agg q xs) (total_at agg q ys)
total_at-append agg q [] ys = refl
total_at-append agg q (x ∷ xs) ys =
    ap (plus agg (share agg q x)) (total_at-append agg q xs ys)
    ∙ sym ((plus_monoid agg).assoc (share agg q x) (total_at agg q xs) (total_at agg q ys))

one_more : (agg : AggKind) (had : Option ℕ) (v : ℕ) → Some (folded agg (unwrap_or had 0) v) ≡ plus agg had (Some (folded agg 0 v))
one_more agg None v = refl
one_more agg (Some w) v = ap Some (sym (folded-zero agg w v))

-- what an order says, where a test of it passes
equal : (o : Ordering) → is_eq o ≡ true → o ≡ Equal
equal Less e = absurd (false≢true e)
equal Equal e = refl
equal Greater e = absurd (false≢true e)

less : (o : Ordering) → T (is_lt o) → o ≡ Less
less Less t = refl
less Equal t = absurd t
less Greater t = absurd t

tied : (p q : List ℕ) → same_key p q ≡ true → key_cmp p q ≡ Equal
tied p q e = equal (key_cmp p q) e

left_part : (a b : Bool) → T (a && b) → T a
left_part true b t = tt
left_part false b t = absurd t

right_part : (a b : Bool) → T (a && b) → T b
right_part true b t = t
right_part false b t = absurd t

pub get-add_value : (agg : AggKind) (table : Values) (row : List ℕ × ℕ) (q : List ℕ) → get (add_value agg table row) q ≡ plus agg (get table q) (share agg q row)
get-add_value agg table row q =
    let v = folded agg (unwrap_or (get table row.0) 0) row.1 in
    get-insert nat_list_cmp_total table row.0 v q
    ∙ elim (same_key q row.0) as (λ b. same_key q row.0 ≡ b → cond b (Some v) (get table q) ≡ plus agg (get table q) (cond b (Some (folded agg 0 row.1)) None)) [
      | true ↦ λ e. ap (λ had. Some (folded agg (unwrap_or had 0) row.1)) (get_tied nat_list_cmp_total table q row.0 (tied q row.0 e)) ∙ one_more agg (get table q) row.1
      | false ↦ λ e. sym (unit_right (plus agg) None (plus_monoid agg) (get table q))
    ] refl

pub get-add_values : (agg : AggKind) (table : Values) (rows : List (List ℕ × ℕ)) (q : List ℕ) → get (add_values agg table rows) q ≡ plus agg (get table q) (total_at agg q rows)
get-add_values agg table [] q = sym (unit_right (plus agg) None (plus_monoid agg) (get table q))
get-add_values agg table (row ∷ rows) q =
    get-add_values agg (add_value agg table row) rows q
    ∙ ap (λ x. plus agg x (total_at agg q rows)) (get-add_value agg table row q)
    ∙ (plus_monoid agg).assoc (get table q) (share agg q row) (total_at agg q rows)

-- rows whose keys are all above have nothing at the key
total_at-above : (agg : AggKind) (q x : List ℕ) (rows : List (List ℕ × ℕ)) → key_cmp q x ≡ Equal → T (below_all key_cmp x rows) → total_at agg q rows ≡ None
total_at-above agg q x [] same above = refl
total_at-above agg q x (row ∷ rows) same above =
    let apart : same_key q row.0 ≡ false = ap is_eq (nat_list_cmp_total.congr q x row.0 same ∙ less _ (left_part _ _ above)) in
    ap (λ (b : Bool). plus agg (cond b (Some (folded agg 0 row.1)) None) (total_at agg q rows)) apart
    ∙ total_at-above agg q x rows same (right_part _ _ above)

total_at-sorted : (agg : AggKind) (q : List ℕ) (rows : List (List ℕ × ℕ)) → T (is_sorted key_cmp rows) → total_at agg q rows ≡ normal agg (find key_cmp q rows)
total_at-sorted agg q [] sorted = refl
total_at-sorted agg q (row ∷ rows) sorted =
    elim (same_key q row.0) as (λ b. same_key q row.0 ≡ b → plus agg (cond b (Some (folded agg 0 row.1)) None) (total_at agg q rows) ≡ normal agg (cond b (Some row.1) (find key_cmp q rows))) [
      | true ↦ λ e. ap (plus agg (Some (folded agg 0 row.1))) (total_at-above agg q row.0 rows (tied q row.0 e) (left_part _ _ sorted))
      | false ↦ λ e. total_at-sorted agg q rows (right_part (below_all key_cmp row.0 rows) _ sorted)
    ] refl

-- the rows of a table have at a key what the table has there
pub total_at-entries : (agg : AggKind) (q : List ℕ) (table : Values) → total_at agg q (entries table) ≡ normal agg (get table q)
total_at-entries agg q table = total_at-sorted agg q (entries table) (entries_sorted table) ∙ ap (normal agg) (sym (get-entries table q))

-- ---- records, and tables of them

pub entries-empty : entries (empty {X = ℕ} {R = key_cmp}) ≡ []
entries-empty = nil_from_length _ (sym (len-entries empty) ∙ len-empty key_cmp ℕ)

-- records are added as their rows are
get-add_all : (agg : AggKind) (table : Values) (records : List (List ℕ)) (q : List ℕ) → get (add_all agg table records) q ≡ plus agg (get table q) (total_at agg q (map (row_of agg) records))
get-add_all agg table [] q = sym (unit_right (plus agg) None (plus_monoid agg) (get table q))
get-add_all agg table (r ∷ records) q =
    get-add_all agg (add_value agg table (row_of agg r)) records q
    ∙ ap (λ x. plus agg x (total_at agg q (map (row_of agg) records))) (get-add_value agg table (row_of agg r) q)
    ∙ (plus_monoid agg).assoc (get table q) (share agg q (row_of agg r)) (total_at agg q (map (row_of agg) records))

module _ (agg : AggKind) (q : List ℕ) where
  -- what records have at a key
  abbrev pub at_key : List (List ℕ) → Option ℕ
  at_key records = total_at agg q (map (row_of agg) records)

  pub at_key_adds : IsWeight (plus agg) None at_key
  at_key_adds = record { nil = refl; append = λ xs ys. ap (total_at agg q) (map-append (row_of agg) xs ys) ∙ total_at-append agg q (map (row_of agg) xs) (map (row_of agg) ys) }

  -- and what comes of each by a function
  pub through_adds : (f : List ℕ → List (List ℕ)) → IsWeight (plus agg) None (λ records. at_key (flat_map f records))
  through_adds f = record { nil = refl; append = λ xs ys. ap at_key (flat_map-append f xs ys) ∙ at_key_adds.append (flat_map f xs) (flat_map f ys) }

  pub get-table_of : (records : List (List ℕ)) → get (table_of agg records) q ≡ at_key records
  get-table_of records = get-add_all agg empty records q ∙ ap (λ x. plus agg x (at_key records)) (get-empty key_cmp q)

  pub normal-add_all : (table : Values) (records : List (List ℕ)) → normal agg (get (add_all agg table records) q) ≡ plus agg (normal agg (get table q)) (at_key records)
  normal-add_all table records =
      ap (normal agg) (get-add_all agg table records q)
      ∙ normal-plus agg (get table q) (at_key records)
      ∙ ap (plus agg (normal agg (get table q))) (normal-total_at agg q (map (row_of agg) records))

  pub entries_add : IsWeight (plus agg) None (λ (tables : List Values). total_at agg q (flat_map entries tables))
  entries_add = record { nil = refl; append = λ xs ys. ap (total_at agg q) (flat_map-append entries xs ys) ∙ total_at-append agg q (flat_map entries xs) (flat_map entries ys) }

  pub one_table : (table : Values) → total_at agg q (flat_map entries (table ∷ [])) ≡ normal agg (get table q)
  one_table table = total_at-append agg q (entries table) [] ∙ unit_right (plus agg) None (plus_monoid agg) _ ∙ total_at-entries agg q table

  -- tables, and the records of one more
  pub get-join : (n : ℕ) (tables : ℕ → Values) (records : List (List ℕ)) → get (join agg (concat_below n (λ b. tables b ∷ []) ++ table_of agg records ∷ [])) q ≡ plus agg (total (plus agg) None n (λ b. normal agg (get (tables b) q))) (at_key records)
  get-join n tables records =
      let all = concat_below n (λ b. tables b ∷ []) in
      get-add_values agg empty (flat_map entries (all ++ table_of agg records ∷ [])) q
      ∙ ap (λ x. plus agg x (total_at agg q (flat_map entries (all ++ table_of agg records ∷ [])))) (get-empty key_cmp q)
      ∙ entries_add.append all (table_of agg records ∷ [])
      ∙ ap (λ x. plus agg x (total_at agg q (flat_map entries (table_of agg records ∷ [])))) (weigh-concat_below entries_add n (λ b. tables b ∷ []) ∙ total-ext (plus agg) None (plus_monoid agg) n _ _ (λ b _. one_table (tables b)))
      ∙ ap (plus agg (total (plus agg) None n (λ b. normal agg (get (tables b) q)))) (one_table (table_of agg records) ∙ ap (normal agg) (get-table_of records) ∙ normal-total_at agg q (map (row_of agg) records))
