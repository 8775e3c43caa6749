-- Barriers in lists of parcels, cut in two.
use Rattle.std.proofs.Common.{◌≡◌, ℕ, Bool, true, false, cond, eqb, ◌||◌, List, [], ◌∷◌, ◌++◌, refl, sym, ap, ◌∙◌, append_assoc, append-nil, true≢false}
use Rattle.std.specs.List.{list_any}
use Rattle.flow_defs.specs.declared.parcel.Parcel.{Parcel}
use Rattle.flow_defs.specs.declared.parcel.Parcel.TheVariants.{Data, Barrier, End}
use Rattle.flow_defs.specs.Parcels.{data_of, barriers_of}
use Rattle.flow_defs.specs.Barriers.{data_before, has_barrier, is_barrier}

or_assoc : (a b c : Bool) → (a || (b || c)) ≡ ((a || b) || c)
or_assoc true b c = refl
or_assoc false b c = refl

pub has_barrier-append : (k : ℕ) (xs ys : List Parcel) → has_barrier k (xs ++ ys) ≡ (has_barrier k xs || has_barrier k ys)
has_barrier-append k [] ys = refl
has_barrier-append k (Data bytes ∷ xs) ys = has_barrier-append k xs ys
has_barrier-append k (Barrier j kind ∷ xs) ys = ap (λ b. eqb j k || b) (has_barrier-append k xs ys) ∙ or_assoc (eqb j k) (has_barrier k xs) (has_barrier k ys)
has_barrier-append k (End ∷ xs) ys = has_barrier-append k xs ys

-- a barrier that does not stand in the first part is looked for in the second
pub data_before-past : (k : ℕ) (xs ys : List Parcel) → has_barrier k xs ≡ false → data_before k (xs ++ ys) ≡ data_of xs ++ data_before k ys
data_before-past k [] ys none = refl
data_before-past k (Data bytes ∷ xs) ys none = ap (λ z. bytes ++ z) (data_before-past k xs ys none) ∙ sym (append_assoc bytes (data_of xs) (data_before k ys))
data_before-past k (Barrier j kind ∷ xs) ys none =
    elim (eqb j k) as (λ b. (b || has_barrier k xs) ≡ false → cond b [] (data_before k (xs ++ ys)) ≡ data_of xs ++ data_before k ys) [
      | true ↦ λ h. absurd (true≢false h)
      | false ↦ λ h. data_before-past k xs ys h
    ] none
data_before-past k (End ∷ xs) ys none = data_before-past k xs ys none

-- a barrier that stands in the first part has nothing of the second before it
pub data_before-within : (k : ℕ) (xs ys : List Parcel) → has_barrier k xs ≡ true → data_before k (xs ++ ys) ≡ data_before k xs
data_before-within k [] ys one = absurd (true≢false (sym one))
data_before-within k (Data bytes ∷ xs) ys one = ap (λ z. bytes ++ z) (data_before-within k xs ys one)
data_before-within k (Barrier j kind ∷ xs) ys one =
    elim (eqb j k) as (λ b. (b || has_barrier k xs) ≡ true → cond b [] (data_before k (xs ++ ys)) ≡ cond b [] (data_before k xs)) [
      | true ↦ λ h. refl
      | false ↦ λ h. data_before-within k xs ys h
    ] one
data_before-within k (End ∷ xs) ys one = data_before-within k xs ys one

-- where barrier k is nowhere, all data stand before it
pub data_before-none : (k : ℕ) (xs : List Parcel) → has_barrier k xs ≡ false → data_before k xs ≡ data_of xs
data_before-none k xs none = ap (data_before k) (sym (append-nil xs)) ∙ data_before-past k xs [] none ∙ append-nil (data_of xs)

-- no barrier at all
pub bare-has_barrier : (k : ℕ) (xs : List Parcel) → list_any is_barrier xs ≡ false → has_barrier k xs ≡ false
bare-has_barrier k [] none = refl
bare-has_barrier k (Data bytes ∷ xs) none = bare-has_barrier k xs none
bare-has_barrier k (Barrier j kind ∷ xs) none = absurd (true≢false none)
bare-has_barrier k (End ∷ xs) none = bare-has_barrier k xs none

pub bare-barriers_of : (xs : List Parcel) → list_any is_barrier xs ≡ false → barriers_of xs ≡ []
bare-barriers_of [] none = refl
bare-barriers_of (Data bytes ∷ xs) none = bare-barriers_of xs none
bare-barriers_of (Barrier j kind ∷ xs) none = absurd (true≢false none)
bare-barriers_of (End ∷ xs) none = bare-barriers_of xs none
