-- What comes of a record: behind each stage what that stage makes of it.
use Rattle.std.proofs.Common.{◌≡◌, ℕ, zero, suc, ◌-◌, ◌<◌, ◌≤◌, List, [], ◌∷◌, ◌++◌, length, take, drop, Option, Some, refl, sym, ap, ◌∙◌, arith}
use Rattle.std.specs.Prelude.{flat_map, slice_get, slice_range}
use Rattle.std.specs.Option.{option_map_or}
use Rattle.std.proofs.lemmas.List.Concat.{flat_map-append}
use Rattle.flow_defs.specs.declared.job.Job.{Job}
use Rattle.flow_defs.specs.declared.job.Stage.{Stage}
use Rattle.flow_defs.specs.Jobs.{last_edge}
use Rattle.flow_defs.specs.Stages.{apply}
use Rattle.plain_machine.specs.Emitting.{apply_behind}
use Rattle.plain_machine.specs.Worth.{through, reach}

-- the stages from one on are that one and those from the next on
pub record Heads (stages : List Stage) (e n : ℕ) : Type 0 where
  pub stage : Stage
  pub at : slice_get stages e ≡ Some stage
  pub rest : slice_range stages e n ≡ stage ∷ slice_range stages (suc e) n

pub heads : (stages : List Stage) (e n : ℕ) → e < n → n ≤ length stages → Heads stages e n
heads [] e n low high = absurd (omega arith)
heads (s ∷ stages) zero zero low high = absurd (omega arith)
heads (s ∷ stages) zero (suc n) low high = record {
  stage = s;
  at = refl;
  rest = let a : suc n - 0 ≡ suc n = omega arith in let b : suc n - 1 ≡ n = omega arith in
      ap (λ k. take k (s ∷ stages)) a ∙ ap (λ k. s ∷ take k stages) (sym b);
}
heads (s ∷ stages) (suc e) zero low high = absurd (omega arith)
heads (s ∷ stages) (suc e) (suc n) low high =
    let deep = heads stages e n (omega arith) (omega arith) in
    let a : suc n - suc e ≡ n - e = omega arith in
    let b : suc n - suc (suc e) ≡ n - suc e = omega arith in
    record {
      stage = deep.stage;
      at = deep.at;
      rest = ap (λ k. take k (drop e stages)) a ∙ deep.rest ∙ ap (λ k. deep.stage ∷ take k (drop (suc e) stages)) (sym b);
    }

-- a record on one edge comes on as what the next stage makes of it
pub reach-next : (job : Job) (e n : ℕ) → e < n → n ≤ last_edge job → (r : List ℕ) → reach job e n r ≡ flat_map (reach job (suc e) n) (apply_behind job e r)
reach-next job e n low high r =
    let h = heads job.stages.items e n low high in
    ap (λ ss. through ss r) h.rest
    ∙ ap (λ (o : Option Stage). flat_map (reach job (suc e) n) (option_map_or (λ (s : Stage). apply s r) o [])) (sym h.at)

pub flat_map-flat_map : {A B C : Type 0} (f : A → List B) (g : B → List C) (xs : List A) → flat_map (λ x. flat_map g (f x)) xs ≡ flat_map g (flat_map f xs)
flat_map-flat_map f g [] = refl
flat_map-flat_map f g (x ∷ xs) = ap (λ ys. flat_map g (f x) ++ ys) (flat_map-flat_map f g xs) ∙ sym (flat_map-append g (f x) (flat_map f xs))

pub flat_map-ext : {A B : Type 0} (f g : A → List B) (xs : List A) → ((x : A) → f x ≡ g x) → flat_map f xs ≡ flat_map g xs
flat_map-ext f g [] same = refl
flat_map-ext f g (x ∷ xs) same = ap (λ ys. ys ++ flat_map f xs) (same x) ∙ ap (λ ys. g x ++ ys) (flat_map-ext f g xs same)

pub reach-all : (job : Job) (e n : ℕ) → e < n → n ≤ last_edge job → (records : List (List ℕ)) → flat_map (reach job e n) records ≡ flat_map (reach job (suc e) n) (flat_map (apply_behind job e) records)
reach-all job e n low high records = flat_map-ext _ _ records (reach-next job e n low high) ∙ flat_map-flat_map (apply_behind job e) (reach job (suc e) n) records

pub reach-same : (job : Job) (e : ℕ) (records : List (List ℕ)) → flat_map (reach job e e) records ≡ records
reach-same job e records = flat_map-ext (reach job e e) (λ r. r ∷ []) records (λ r. ap (λ k. through (take k (drop e job.stages.items)) r) (let z : e - e ≡ 0 = omega arith in z)) ∙ alone records
  where
    alone : (xs : List (List ℕ)) → flat_map (λ r. r ∷ []) xs ≡ xs
    alone [] = refl
    alone (x ∷ xs) = ap (λ ys. x ∷ ys) (alone xs)
