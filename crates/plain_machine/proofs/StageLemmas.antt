-- No stage makes a record longer.
use Rattle.std.proofs.Common.{ℕ, zero, suc, ◌≤◌, Bool, true, false, cond, List, [], ◌∷◌, length, arith}
use Rattle.std.proofs.lemmas.List.{length-map}
use Rattle.std.specs.Prelude.{filter, slice_get, nat_eq, ◌==◌}
use Rattle.std.specs.Option.{option_to_list}
use Rattle.std.specs.List.{AllByRecursion, slice_split, onto_first, starts_with}
use Rattle.flow_defs.specs.declared.job.StageKind.{StageKind}
use Rattle.flow_defs.specs.declared.job.StageKind.TheVariants.{Words, Upper, Keep, Field}
use Rattle.flow_defs.specs.Stages.{apply, given, raised}
use Rattle.plain_machine.specs.Theorems.{NoStageLengthens}

-- parts of at most n bytes
abbrev pub Within : ℕ → List (List ℕ) → Type 0
Within n parts = AllByRecursion (λ part. length part ≤ n) parts

wider : (n m : ℕ) (parts : List (List ℕ)) → n ≤ m → Within n parts → Within m parts
wider n m [] h all = all
wider n m (part ∷ parts) h all = (let low = all.0 in omega (arith, low, h), wider n m parts h all.1)

grown : (n x : ℕ) (parts : List (List ℕ)) → Within n parts → Within (suc n) (onto_first x parts)
grown n x [] all = (omega arith, all)
grown n x (part ∷ parts) all = (let low = all.0 in omega (arith, low), wider n (suc n) parts (omega arith) all.1)

pub split_within : (p : ℕ → Bool) (xs : List ℕ) → Within (length xs) (slice_split p xs)
split_within p [] = (omega arith, tt)
split_within p (x ∷ xs) =
    elim (p x) as (λ t. Within (suc (length xs)) (cond t ([] ∷ slice_split p xs) (onto_first x (slice_split p xs)))) [
      | true ↦ (omega arith, wider (length xs) (suc (length xs)) (slice_split p xs) (omega arith) (split_within p xs))
      | false ↦ grown (length xs) x (slice_split p xs) (split_within p xs)
    ]

filter_within : (n : ℕ) (test : List ℕ → Bool) (parts : List (List ℕ)) → Within n parts → Within n (filter test parts)
filter_within n test [] all = all
filter_within n test (part ∷ parts) all =
    elim (test part) as (λ t. Within n (cond t (part ∷ filter test parts) (filter test parts))) [
      | true ↦ (all.0, filter_within n test parts all.1)
      | false ↦ filter_within n test parts all.1
    ]

one_within : (n : ℕ) (parts : List (List ℕ)) (i : ℕ) → Within n parts → Within n (option_to_list (slice_get parts i))
one_within n [] i all = tt
one_within n (part ∷ parts) zero all = (all.0, tt)
one_within n (part ∷ parts) (suc i) all = one_within n parts i all.1

given_within : (kind : StageKind) (arg r : List ℕ) → Within (length r) (given kind arg r)
given_within Words arg r = filter_within (length r) _ _ (split_within (λ b. b == 32) r)
given_within Upper arg r = (let same = length-map r raised in omega (arith, same), tt)
given_within Keep arg r = elim (starts_with nat_eq r arg) as (λ t. Within (length r) (cond t (r ∷ []) [])) [ true ↦ (omega arith, tt) | false ↦ tt ]
given_within Field arg r = one_within (length r) (slice_split (λ b. b == 44) r) _ (split_within (λ b. b == 44) r)

pub no_stage_lengthens : NoStageLengthens
unfolding apply
no_stage_lengthens stage r = given_within stage.kind stage.arg.items r
