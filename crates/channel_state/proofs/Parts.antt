-- What is written piece by piece.
use Rattle.std.proofs.Common.{◌≡◌, ◌↔◌, Result, Ok, Err, ℕ, suc, ◌+◌, ◌<◌, ◌≤◌, ◌^◌, true, false, List, [], ◌∷◌, ◌++◌, length, drop, refl, sym, ap, subst, ◌∙◌, append_assoc, arith}
use Rattle.std.specs.Prelude.{flat_map, All}
use Rattle.std.specs.List.{zip, list_all, AllByRecursion}
use Rattle.std.specs.FinMap.{entries}
use Rattle.std.proofs.lemmas.Bool.{both_ways, and_parts, and_from, ltb-true, lt-ltb}
use Rattle.std.proofs.lemmas.List.{append-nil}
use Rattle.std.proofs.lemmas.List.Elements.{All-from_recursion, recursion_from_All}
use Rattle.std.proofs.lemmas.List.Concat.{flat_map-cons}
use Rattle.flow_defs.specs.Items.{Items}
use Rattle.flow_defs.specs.Tables.{Values}
use Rattle.flow_defs.specs.declared.image.TakeRun.{TakeRun}
use Rattle.flow_defs.specs.declared.image.Image.{Image}
use Rattle.plain_machine.specs.Spelling.{CanSpell, row_part, counted}
use Rattle.std.specs.Int.{w32, to_be_bytes}
use Rattle.flow_defs.specs.Rows.{row_pair, row_pairs}
use Rattle.flow_defs.specs.declared.table.Row.{Row}
use Rattle.plain_machine.specs.Images.{HasShortKeys}
use Rattle.channel_state.specs.declared.fault.WriteFault.{WriteFault}
use Rattle.channel_state.specs.declared.fault.WriteFault.TheVariants.{Memory, TooBig}
use Rattle.channel_state.specs.Contents.{is_count, has_counts}

pub two_parts : (old middle new a b : List ℕ) → middle ≡ old ++ a → new ≡ middle ++ b → new ≡ old ++ (a ++ b)
two_parts old middle new a b first second = second ∙ ap (λ l. l ++ b) first ∙ append_assoc old a b

-- one item more of two lists side by side
pub next_pair : {A B : Type 0} (part : A × B → List ℕ) (xs : List A) (ys : List B) (i : ℕ) (x : A) (y : B) (out new whole : List ℕ)
    → drop i xs ≡ x ∷ drop (i + 1) xs → drop i ys ≡ y ∷ drop (i + 1) ys
    → out ++ flat_map part (zip (drop i xs) (drop i ys)) ≡ whole → new ≡ out ++ part (x, y) → new ++ flat_map part (zip (drop (i + 1) xs) (drop (i + 1) ys)) ≡ whole
next_pair part xs ys i x y out new whole first second before put =
    let rest = zip (drop (i + 1) xs) (drop (i + 1) ys) in
    ap (λ l. l ++ flat_map part rest) put ∙ append_assoc out (part (x, y)) (flat_map part rest)
    ∙ ap (λ l. out ++ l) (sym (flat_map-cons part (x, y) rest)) ∙ ap (λ l. out ++ flat_map part l) (sym (ap (λ l. zip l (drop i ys)) first ∙ ap (zip (x ∷ drop (i + 1) xs)) second)) ∙ before

pub no_pair : {A B : Type 0} (part : A × B → List ℕ) (xs : List A) (ys : List B) (i : ℕ) (out whole : List ℕ) → drop i xs ≡ [] → out ++ flat_map part (zip (drop i xs) (drop i ys)) ≡ whole → out ≡ whole
no_pair part xs ys i out whole none before = sym (append-nil out) ∙ ap (λ l. out ++ flat_map part l) (sym (ap (λ l. zip l (drop i ys)) none)) ∙ before

-- ---- what goes into four bytes

passing : {X : Type 0} (size : X → ℕ) (xs : List X) → list_all (λ x. is_count (size x)) xs ≡ true → AllByRecursion (λ x. size x < 2 ^ 32) xs
passing size [] pass = tt
passing size (x ∷ xs) pass = let parts = and_parts _ _ pass in (ltb-true (size x) (2 ^ 32) parts.0, passing size xs parts.1)

passes : {X : Type 0} (size : X → ℕ) (xs : List X) → AllByRecursion (λ x. size x < 2 ^ 32) xs → list_all (λ x. is_count (size x)) xs ≡ true
passes size [] all = refl
passes size (x ∷ xs) all = and_from _ _ (lt-ltb (size x) (2 ^ 32) all.0) (passes size xs all.1)

pub all_counts : {X : Type 0} (size : X → ℕ) (xs : List X) → list_all (λ x. is_count (size x)) xs ≡ true → All (λ x. size x < 2 ^ 32) xs
all_counts size xs pass = All-from_recursion (λ x. size x < 2 ^ 32) xs (passing size xs pass)

pub counts_all : {X : Type 0} (size : X → ℕ) (xs : List X) → All (λ x. size x < 2 ^ 32) xs → list_all (λ x. is_count (size x)) xs ≡ true
counts_all size xs all = passes size xs (recursion_from_All (λ x. size x < 2 ^ 32) xs all)

abbrev rows_in : Values → ℕ
rows_in table = length (entries table)

abbrev runs_in : Items TakeRun → ℕ
runs_in runs = length runs.items

abbrev bytes_in : Items ℕ → ℕ
bytes_in piece = length piece.items

pub it_can : (image : Image) → 1 ≤ image.number → has_counts image ≡ true → CanSpell image
it_can image number has =
    let last = and_parts _ _ has in
    let third = and_parts _ _ last.0 in
    let second = and_parts _ _ third.0 in
    record {
      number = number;
      keys = all_counts rows_in image.tables.items second.0;
      runs = all_counts runs_in image.takes.items second.1;
      pieces_in = all_counts bytes_in image.saved_in.items third.1;
      pieces_out = all_counts bytes_in image.saved_out.items last.1;
    }

pub it_has : (image : Image) → CanSpell image → has_counts image ≡ true
it_has image can =
    and_from _ _ (and_from _ _ (and_from _ _ (counts_all rows_in image.tables.items can.keys) (counts_all runs_in image.takes.items can.runs)) (counts_all bytes_in image.saved_in.items can.pieces_in))
    (counts_all bytes_in image.saved_out.items can.pieces_out)

cannot : (image : Image) → has_counts image ≡ false → CanSpell image → ⊥
cannot image has can = both_ways (has_counts image) has (it_has image can)

pub too_big : (image : Image) (r : Result (Items ℕ) WriteFault) → r ≡ Err TooBig → has_counts image ≡ false → (r ≡ Err TooBig) ↔ (CanSpell image → ⊥)
too_big image r is has = (λ _. cannot image has, λ _. is)

pub not_big : (image : Image) (r : Result (Items ℕ) WriteFault) → (r ≡ Err TooBig → ⊥) → CanSpell image → (r ≡ Err TooBig) ↔ (CanSpell image → ⊥)
not_big image r other can = (λ is. absurd (other is), λ none. absurd (none can))

pub spelled : (image : Image) (bytes : Items ℕ) → CanSpell image → (◌≡◌ {A = Result (Items ℕ) WriteFault} (Ok bytes) (Err TooBig)) ↔ (CanSpell image → ⊥)
spelled image bytes can = not_big image (Ok bytes) (λ is. grind (arith, is)) can

pub no_memory : (image : Image) → CanSpell image → (◌≡◌ {A = Result (Items ℕ) WriteFault} (Err Memory) (Err TooBig)) ↔ (CanSpell image → ⊥)
no_memory image can = not_big image (Err Memory) (λ is. grind (arith, is)) can

-- ---- keys are short

pub few_keys : (tables : List Values) → All HasShortKeys tables → All (λ (table : Values). All (λ (row : List ℕ × ℕ). length row.0 < 2 ^ 32) (entries table)) tables
few_keys tables short = λ k d low. λ i e here. let it = short k d low i e here in omega (arith, it)

pub row_keys : (rows : List Row) (pairs : List (List ℕ × ℕ)) → row_pairs rows ≡ pairs → All (λ (row : List ℕ × ℕ). length row.0 < 2 ^ 32) pairs → All (λ (row : Row). length row.key.items < 2 ^ 32) rows
row_keys rows pairs same all = All-from_recursion (λ (row : Row). length row.key.items < 2 ^ 32) rows (over rows (recursion_from_All (λ (row : List ℕ × ℕ). length row.0 < 2 ^ 32) (row_pairs rows) (subst (λ l. All (λ (row : List ℕ × ℕ). length row.0 < 2 ^ 32) l) (sym same) all)))
  where
    over : (rs : List Row) → AllByRecursion (λ (row : List ℕ × ℕ). length row.0 < 2 ^ 32) (row_pairs rs) → AllByRecursion (λ (row : Row). length row.key.items < 2 ^ 32) rs
    over [] a = tt
    over (r ∷ rs) a = (a.0, over rs a.1)

parts_of_rows : (rows : List Row) → flat_map (λ (row : Row). row_part (row_pair row)) rows ≡ flat_map row_part (row_pairs rows)
parts_of_rows [] = refl
parts_of_rows (r ∷ rs) =
    flat_map-cons (λ (row : Row). row_part (row_pair row)) r rs ∙ ap (λ l. row_part (row_pair r) ++ l) (parts_of_rows rs) ∙ sym (flat_map-cons row_part (row_pair r) (row_pairs rs))

length_of_rows : (rows : List Row) → length (row_pairs rows) ≡ length rows
length_of_rows [] = refl
length_of_rows (r ∷ rs) = ap suc (length_of_rows rs)

pub whole_table : (old middle new : List ℕ) (rows : List Row) (pairs : List (List ℕ × ℕ)) → row_pairs rows ≡ pairs → middle ≡ old ++ to_be_bytes w32 (length rows) → new ≡ middle ++ flat_map (λ (row : Row). row_part (row_pair row)) rows
    → new ≡ old ++ counted row_part pairs
whole_table old middle new rows pairs same first second =
    two_parts old middle new (to_be_bytes w32 (length rows)) (flat_map (λ (row : Row). row_part (row_pair row)) rows) first second ∙ ap (λ l. old ++ (to_be_bytes w32 (length rows) ++ l)) (parts_of_rows rows) ∙ ap (λ n. old ++ (to_be_bytes w32 n ++ flat_map row_part (row_pairs rows))) (sym (length_of_rows rows)) ∙ ap (λ l. old ++ counted row_part l) same
