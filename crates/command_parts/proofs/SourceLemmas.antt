-- The sources of a job, one after another.
use Rattle.std.proofs.Common.{◌≡◌, ℕ, zero, suc, ◌<◌, List, [], ◌∷◌, ◌++◌, length, get_or, Option, Some, None, sym, ap, subst, arith, inl, inr, ◌⊎◌}
use Rattle.std.specs.Prelude.{IsSome, slice_get}
use Rattle.std.proofs.lemmas.Bool.{false≢true}
use Rattle.std.proofs.lemmas.Option.{slice_get_within, same_Some}
use Rattle.std.specs.Option.{option_map_or}
use Rattle.flow_defs.specs.Items.{Items}
use Rattle.flow_defs.specs.declared.job.Job.{Job}
use Rattle.command_parts.specs.Sources.{source_name, AreInputsOf, HasFaulty}

found : {A : Type 0} (xs : List A) (i : ℕ) (x : A) → i < length xs → x ≡ get_or xs i x → slice_get xs i ≡ Some x
found [] i x within is = absurd (omega (arith, within))
found (y ∷ xs) zero x within is = ap Some (sym is)
found (y ∷ xs) (suc i) x within is = found xs i x (omega (arith, within)) is

-- the source at a place has the name that stands there
pub name_at : (job : Job) (i : ℕ) (name : Items ℕ) → i < length job.sources.items → name ≡ get_or job.sources.items i name → source_name job i ≡ name.items
name_at job i name within is = ap (λ f. option_map_or (λ (file : Items ℕ). file.items) f []) (found job.sources.items i name within is)

-- ---- the inputs of the sources

-- what holds of the items of a list, each at its place, holds of those of the list with one more
pub one_more : {S : Type 0} (P : ℕ → S → Type 0) (xs : List S) (x : S) → ((a : ℕ) (y : S) → slice_get xs a ≡ Some y → P a y) → P (length xs) x
    → (a : ℕ) (y : S) → slice_get (xs ++ x ∷ []) a ≡ Some y → P a y
one_more P [] x all here zero y is = subst (P 0) (same_Some x y is) here
one_more P [] x all here (suc a) y is = absurd (cc)
one_more P (z ∷ xs) x all here zero y is = all zero y is
one_more P (z ∷ xs) x all here (suc a) y is = one_more (λ n. P (suc n)) xs x (λ n. all (suc n)) here a y is

pub one_input_more : {S : Type 0} (left : S → Option (List ℕ)) (faults : S → ℕ) (job : Job) (contents : List ℕ → Option (List ℕ)) (inputs : List S) (input : S)
    → AreInputsOf left faults job contents inputs → left input ≡ contents (source_name job (length inputs)) → faults input ≡ 0 → AreInputsOf left faults job contents (inputs ++ input ∷ [])
one_input_more left faults job contents inputs input told tells fresh =
    one_more (λ a (s : _). (left s ≡ contents (source_name job a)) × (faults s ≡ 0)) inputs input told (tells, fresh)

-- the faulty one of a list and one more is among the list, or is that one
pub faulty_parts : {S : Type 0} (faults : S → ℕ) (xs : List S) (x : S) → HasFaulty faults (xs ++ x ∷ []) → HasFaulty faults xs ⊎ (0 < faults x)
faulty_parts faults xs x faulty =
    one_more (λ a (y : _). 0 < faults y → HasFaulty faults xs ⊎ (0 < faults x)) xs x (λ a y is above. inl (a, y, is, above)) (λ above. inr above) faulty.0 faulty.1 faulty.2 faulty.3

-- an empty list has none that is faulty
pub no_faulty : {S : Type 0} (faults : S → ℕ) (xs : List S) → (0 < length xs → ⊥) → HasFaulty faults xs → ⊥
no_faulty faults xs none faulty = none (let inside = slice_get_within xs faulty.0 faulty.1 faulty.2 in omega (arith, inside))

-- what is none is not some
pub not_some : {A : Type 0} (o : Option A) → o ≡ None → IsSome o → ⊥
not_some None is some = false≢true some
not_some (Some x) is some = cc
