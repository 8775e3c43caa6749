-- A map's entries, seen as a finite map under the bytes of their keys.
use Rattle.std.proofs.Common.{◌≡◌, ℕ, Bool, true, false, cond, List, [], ◌∷◌, ◌++◌, append_assoc, Some, Ordering, Less, Equal, Greater, refl, sym, ap, ◌∙◌}
use Rattle.std.specs.Prelude.{nat_eq}
use Rattle.std.specs.Ordering.{is_eq, eq_by_cmp}
use Rattle.std.specs.Cmp.Lexicographic.{pointwise, texts_ties, same_text, nat_list_eq_equiv}
use Rattle.std.specs.FinMap.{find, get, insert, from_entries, same_map, get-from_entries, get-insert, slice_cmp-IsAntisymmetric, nat_cmp-IsAntisymmetric}
use Rattle.std.specs.Map.{lookup, set_value, keys_of}
use Rattle.std.specs.List.{AllByRecursion, IsDistinct}
use Rattle.std.proofs.lemmas.Cmp.{nat_list_cmp_total, eq_by_cmp_equiv}
use Rattle.std.proofs.lemmas.List.{map-append}
use Rattle.flow_defs.specs.Items.{Items}
use Rattle.flow_defs.specs.declared.table.Row.{Row}
use Rattle.flow_defs.specs.Rows.{row_pair, row_pairs, HasDistinctKeys}
use Rattle.flow_defs.specs.Tables.{key_cmp}
use Rattle.job_plan.specs.Entries.{entry_pairs}

abbrev pub Key : Type 0
Key = Items ℕ

-- the key has these bytes
abbrev pub has_bytes : List ℕ → Key → Bool
has_bytes bytes key = pointwise nat_eq bytes key.items

-- a look-up in the entries is one in their pairs
pub lookup-entry_pairs : (entries : List (Key × ℕ)) (bytes : List ℕ) → lookup (has_bytes bytes) entries ≡ find key_cmp bytes (entry_pairs entries)
lookup-entry_pairs [] bytes = refl
lookup-entry_pairs (e ∷ entries) bytes =
    ap (λ b. cond b (Some e.1) (lookup (has_bytes bytes) entries)) (texts_ties bytes e.0.items)
    ∙ ap (cond (eq_by_cmp key_cmp bytes e.0.items) (Some e.1)) (lookup-entry_pairs entries bytes)

is_equal : (o : Ordering) → is_eq o ≡ true → o ≡ Equal
is_equal Equal is = refl
is_equal Less is = cc
is_equal Greater is = cc

-- bytes that the order does not tell apart are the same
pub exact : (x y : List ℕ) → eq_by_cmp key_cmp x y ≡ true → x ≡ y
exact x y is = slice_cmp-IsAntisymmetric nat_cmp-IsAntisymmetric x y (is_equal _ is)

tied_itself : (x : List ℕ) → eq_by_cmp key_cmp x x ≡ true
tied_itself x = (eq_by_cmp_equiv nat_list_cmp_total).refl x

-- a key of these bytes
abbrev key_of : List ℕ → Key
key_of bytes = record { items = bytes; room = 0 }

-- ---- one more entry

-- where the keys find what they found, but for one key, the map has its value put in
pub inserted : (old new : List (Key × ℕ)) (key : Key) (n : ℕ) → ((k : Key) → lookup (has_bytes k.items) new ≡ cond (pointwise nat_eq key.items k.items) (Some n) (lookup (has_bytes k.items) old))
    → from_entries {R = key_cmp} (entry_pairs new) ≡ insert (from_entries (entry_pairs old)) key.items n
inserted old new key n updates =
    same_map nat_list_cmp_total (slice_cmp-IsAntisymmetric nat_cmp-IsAntisymmetric) _ _ (λ bytes.
    get-from_entries nat_list_cmp_total (entry_pairs new) bytes
    ∙ sym (lookup-entry_pairs new bytes) ∙ updates (key_of bytes)
    ∙ ap (λ b. cond b (Some n) (lookup (has_bytes bytes) old)) ((nat_list_eq_equiv).symm key.items bytes)
    ∙ lookup-entry_pairs ((key, n) ∷ old) bytes
    ∙ ap (cond (eq_by_cmp key_cmp bytes key.items) (Some n)) (sym (get-from_entries nat_list_cmp_total (entry_pairs old) bytes))
    ∙ sym (get-insert nat_list_cmp_total (from_entries (entry_pairs old)) key.items n bytes))

-- ---- a new value in an entry

both_true : (x y z : List ℕ) → eq_by_cmp key_cmp x y ≡ true → eq_by_cmp key_cmp x z ≡ true → y ≡ z
both_true x y z first second = sym (exact x y first) ∙ exact x z second

-- a value set at bytes that are found changes what these find, and nothing else
set_finds : (entries : List (Key × ℕ)) (bytes : List ℕ) (old n : ℕ) → lookup (has_bytes bytes) entries ≡ Some old → (other : List ℕ)
    → find key_cmp other (entry_pairs (set_value (has_bytes bytes) entries n)) ≡ cond (eq_by_cmp key_cmp other bytes) (Some n) (find key_cmp other (entry_pairs entries))
set_finds [] bytes old n found other = absurd (cc)
set_finds (e ∷ entries) bytes old n found other =
    elim (has_bytes bytes e.0) as (λ b. has_bytes bytes e.0 ≡ b → cond b (Some e.1) (lookup (has_bytes bytes) entries) ≡ Some old
    → find key_cmp other (entry_pairs (cond b ((e.0, n) ∷ entries) (e ∷ set_value (has_bytes bytes) entries n)))
    ≡ cond (eq_by_cmp key_cmp other bytes) (Some n) (cond (eq_by_cmp key_cmp other e.0.items) (Some e.1) (find key_cmp other (entry_pairs entries)))) [
      | true ↦ λ is _.
          let same : bytes ≡ e.0.items = same_text bytes e.0.items (sym is) in
          ap (λ (k : List ℕ). cond (eq_by_cmp key_cmp other k) (Some n) (find key_cmp other (entry_pairs entries))) (sym same)
          ∙ elim (eq_by_cmp key_cmp other bytes) as (λ b. cond b (Some n) (find key_cmp other (entry_pairs entries)) ≡ cond b (Some n) (cond b (Some e.1) (find key_cmp other (entry_pairs entries)))) [ true ↦ refl | false ↦ refl ]
          ∙ ap (λ (k : List ℕ). cond (eq_by_cmp key_cmp other bytes) (Some n) (cond (eq_by_cmp key_cmp other k) (Some e.1) (find key_cmp other (entry_pairs entries)))) same
      | false ↦ λ is later.
          ap (cond (eq_by_cmp key_cmp other e.0.items) (Some e.1)) (set_finds entries bytes old n later other)
          ∙ elim (eq_by_cmp key_cmp other e.0.items) as (λ a. eq_by_cmp key_cmp other e.0.items ≡ a → cond a (Some e.1) (cond (eq_by_cmp key_cmp other bytes) (Some n) (find key_cmp other (entry_pairs entries)))
          ≡ cond (eq_by_cmp key_cmp other bytes) (Some n) (cond a (Some e.1) (find key_cmp other (entry_pairs entries)))) [
            | true ↦ λ here. elim (eq_by_cmp key_cmp other bytes) as (λ b. eq_by_cmp key_cmp other bytes ≡ b → Some e.1 ≡ cond b (Some n) (Some e.1)) [
              | true ↦ λ there. absurd (let same : bytes ≡ e.0.items = both_true other bytes e.0.items there here in let tied : has_bytes bytes e.0 ≡ true = texts_ties bytes e.0.items ∙ ap (λ (k : List ℕ). eq_by_cmp key_cmp k e.0.items) same ∙ tied_itself e.0.items in cc)
              | false ↦ λ there. refl
            ] refl
            | false ↦ λ here. refl
          ] refl
    ] refl found

pub set_in : (entries : List (Key × ℕ)) (bytes : List ℕ) (old n : ℕ) → lookup (has_bytes bytes) entries ≡ Some old
    → from_entries {R = key_cmp} (entry_pairs (set_value (has_bytes bytes) entries n)) ≡ insert (from_entries (entry_pairs entries)) bytes n
set_in entries bytes old n found =
    same_map nat_list_cmp_total (slice_cmp-IsAntisymmetric nat_cmp-IsAntisymmetric) _ _ (λ other.
    get-from_entries nat_list_cmp_total (entry_pairs (set_value (has_bytes bytes) entries n)) other
    ∙ set_finds entries bytes old n found other
    ∙ ap (cond (eq_by_cmp key_cmp other bytes) (Some n)) (sym (get-from_entries nat_list_cmp_total (entry_pairs entries) other))
    ∙ sym (get-insert nat_list_cmp_total (from_entries (entry_pairs entries)) bytes n other))

-- what the map has under bytes is what the entries' look-up finds
pub get-entries : (entries : List (Key × ℕ)) (bytes : List ℕ) → get (from_entries {R = key_cmp} (entry_pairs entries)) bytes ≡ lookup (has_bytes bytes) entries
get-entries entries bytes = get-from_entries nat_list_cmp_total (entry_pairs entries) bytes ∙ sym (lookup-entry_pairs entries bytes)

-- ---- entries, copied into rows one after another

-- entries whose keys are not the same are rows whose keys are distinct
pub distinct_pairs : (entries : List (Key × ℕ)) → IsDistinct (λ (k l : Key). pointwise nat_eq k.items l.items) (keys_of entries) → HasDistinctKeys (entry_pairs entries)
unfolding IsDistinct
distinct_pairs [] distinct = tt
distinct_pairs (e ∷ entries) distinct = (apart e.0 entries distinct.0, distinct_pairs entries distinct.1)
  where
    apart : (key : Key) (entries : List (Key × ℕ)) → AllByRecursion (λ (k : Key). pointwise nat_eq key.items k.items ≡ false) (keys_of entries) → AllByRecursion (λ (l : List ℕ). eq_by_cmp key_cmp key.items l ≡ false) (keys_of (entry_pairs entries))
    apart key [] differ = tt
    apart key (e ∷ entries) differ = (sym (texts_ties key.items e.0.items) ∙ differ.0, apart key entries differ.1)

-- one more entry is copied
pub one_copied : (rows : List Row) (row : Row) (left more : List (Key × ℕ)) (key : Key) (n : ℕ) → left ≡ (key, n) ∷ more → row_pair row ≡ (key.items, n)
    → row_pairs (rows ++ row ∷ []) ++ entry_pairs more ≡ row_pairs rows ++ entry_pairs left
one_copied rows row left more key n steps is =
    ap (λ (l : List (List ℕ × ℕ)). l ++ entry_pairs more) (map-append row_pair rows (row ∷ []))
    ∙ append_assoc (row_pairs rows) (row_pair row ∷ []) (entry_pairs more)
    ∙ ap (λ (e : List ℕ × ℕ). row_pairs rows ++ e ∷ entry_pairs more) is
    ∙ ap (λ (es : List (Key × ℕ)). row_pairs rows ++ entry_pairs es) (sym steps)
