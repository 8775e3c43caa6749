-- Flags, one for each channel.
use Rattle.std.proofs.Common.{◌≡◌, ℕ, zero, suc, ◌<◌, Bool, true, false, eqb, get_or, List, [], ◌∷◌, length, refl, ap, ◌∙◌, arith}
use Rattle.std.specs.Prelude.{slice_set, ◌||◌}
use Rattle.std.specs.List.{list_all}
use Rattle.std.proofs.lemmas.Bool.{eqb-true, eqb-false}
use Rattle.std.proofs.lemmas.List.{get_or-set_same, get_or-set_other}
use Rattle.barriers.specs.Alignments.{none_of}

pub none_at : (flags : List Bool) (i : ℕ) → get_or (none_of flags) i false ≡ false
none_at [] i = refl
none_at (g ∷ flags) zero = refl
none_at (g ∷ flags) (suc i) = none_at flags i

pub all_at : (flags : List Bool) (i : ℕ) → i < length flags → list_all (λ g. g) flags ≡ true → get_or flags i false ≡ true
all_at [] i h e = absurd (omega arith)
all_at (true ∷ flags) zero h e = refl
all_at (true ∷ flags) (suc i) h e = all_at flags i (omega arith) e
all_at (false ∷ flags) i h e = absurd (cc)

pub all_from : (flags : List Bool) → ((i : ℕ) → i < length flags → get_or flags i false ≡ true) → list_all (λ g. g) flags ≡ true
all_from [] h = refl
all_from (true ∷ flags) h = all_from flags (λ i lt. h (suc i) (omega arith))
all_from (false ∷ flags) h = let e : false ≡ true = h 0 (omega arith) in absurd (cc)

-- the flag of channel c, once that of channel i is set
pub set_at : (flags : List Bool) (i c : ℕ) → i < length flags → get_or (slice_set flags i true) c false ≡ (eqb c i || get_or flags c false)
set_at flags i c within =
    elim (eqb c i) as (λ t. eqb c i ≡ t → get_or (slice_set flags i true) c false ≡ (t || get_or flags c false)) [
      | true ↦ λ is. ap (λ j. get_or (slice_set flags i true) j false) (eqb-true c i is) ∙ get_or-set_same flags i true false within
      | false ↦ λ isnt. get_or-set_other flags i c true false (eqb-false c i isnt)
    ] refl

pub or_false : (x : Bool) → (x || false) ≡ x
or_false true = refl
or_false false = refl

pub or_assoc : (x y z : Bool) → ((x || y) || z) ≡ (x || (y || z))
or_assoc true y z = refl
or_assoc false y z = refl

pub or_turned : (x y : Bool) → (x || y) ≡ (y || x)
or_turned true true = refl
or_turned true false = refl
or_turned false true = refl
or_turned false false = refl
