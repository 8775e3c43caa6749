-- Lists that are filled place by place.
use Rattle.std.proofs.Common.{◌≡◌, ◌≢◌, ℕ, zero, suc, ◌+◌, ◌<◌, ◌≤◌, List, [], ◌∷◌, ◌++◌, length, Option, Some, None, refl, sym, ap, ◌∙◌, arith, length-append}
use Rattle.std.specs.Prelude.{slice_get}
use Rattle.std.specs.List.{AllByRecursion}
use Rattle.flow_defs.specs.declared.image.Snapshot.{Snapshot}
use Rattle.flow_defs.specs.Items.{Items}
use Rattle.plain_machine.specs.Images.{items_at}
use Rattle.collector.specs.Collecting.{kept_at}
use Rattle.collector.specs.Filling.{AreEmpty}

pub none_more : (slots : List (Option Snapshot)) → ((place : ℕ) → kept_at slots place ≡ None) → (place : ℕ) → kept_at (slots ++ None ∷ []) place ≡ None
none_more [] none zero = refl
none_more [] none (suc place) = refl
none_more (slot ∷ slots) none zero = none 0
none_more (slot ∷ slots) none (suc place) = none_more slots (λ p. none (suc p)) place

pub empty_more : (pieces : List (Items ℕ)) (bytes : Items ℕ) → AreEmpty pieces → bytes.items ≡ [] → AreEmpty (pieces ++ bytes ∷ [])
empty_more [] bytes empty is zero = is
empty_more [] bytes empty is (suc place) = refl
empty_more (piece ∷ pieces) bytes empty is zero = empty 0
empty_more (piece ∷ pieces) bytes empty is (suc place) = empty_more pieces bytes (λ p. empty (suc p)) is place

-- past the end no snapshot stands
pub none_past : (slots : List (Option Snapshot)) (place : ℕ) → length slots ≤ place → kept_at slots place ≡ None
none_past [] place past = refl
none_past (slot ∷ slots) zero past = absurd (omega (arith, past))
none_past (slot ∷ slots) (suc place) past = none_past slots place (omega (arith, past))

-- the last one
pub last_kept : (slots : List (Option Snapshot)) (slot : Option Snapshot) → kept_at (slots ++ slot ∷ []) (length slots) ≡ slot
last_kept [] slot = refl
last_kept (x ∷ slots) slot = last_kept slots slot

pub front_kept : (slots : List (Option Snapshot)) (slot : Option Snapshot) (place : ℕ) → place < length slots → kept_at (slots ++ slot ∷ []) place ≡ kept_at slots place
front_kept [] slot place low = absurd (omega (arith, low))
front_kept (x ∷ slots) slot zero low = refl
front_kept (x ∷ slots) slot (suc place) low = front_kept slots slot place (omega (arith, low))

pub all_weaker : {X : Type 0} (P Q : X → Type 0) → ((x : X) → P x → Q x) → (xs : List X) → AllByRecursion P xs → AllByRecursion Q xs
all_weaker P Q to [] all = all
all_weaker P Q to (x ∷ xs) all = (to x all.0, all_weaker P Q to xs all.1)

-- ---- what popping leaves

pub one_less : {X : Type 0} (rest left : List X) (x : X) → rest ≡ left ++ x ∷ [] → length rest ≡ suc (length left)
one_less rest left x e = ap length e ∙ length-append left (x ∷ []) ∙ (let z : length left + 1 ≡ suc (length left) = omega arith in z)

pub popped : (slots rest left : List (Option Snapshot)) (slot : Option Snapshot) → ((place : ℕ) → place < length rest → kept_at rest place ≡ kept_at slots place) → rest ≡ left ++ slot ∷ [] → kept_at slots (length left) ≡ slot
popped slots rest left slot kept e =
    let less = one_less rest left slot e in
    sym (kept (length left) (omega (arith, less))) ∙ ap (λ l. kept_at l (length left)) e ∙ last_kept left slot

pub still_kept : (slots rest left : List (Option Snapshot)) (slot : Option Snapshot) → ((place : ℕ) → place < length rest → kept_at rest place ≡ kept_at slots place) → rest ≡ left ++ slot ∷ [] →
    (place : ℕ) → place < length left → kept_at left place ≡ kept_at slots place
still_kept slots rest left slot kept e place low =
    let less = one_less rest left slot e in
    sym (front_kept left slot place low) ∙ ap (λ l. kept_at l place) (sym e) ∙ kept place (omega (arith, low, less))

pub all_middle : {X : Type 0} (P : X → Type 0) (xs : List X) (x : X) (ys : List X) → AllByRecursion P ((xs ++ x ∷ []) ++ ys) → P x
all_middle P [] x ys all = all.0
all_middle P (y ∷ xs) x ys all = all_middle P xs x ys all.1
