-- The worth stays along a chain of images, and chains are put together.
use Rattle.std.proofs.Common.{◌≡◌, ℕ, zero, suc, ◌<◌, true, false, cond, List, [], ◌∷◌, ◌++◌, length, get_or, drop, refl, ap, subst, ◌∙◌, arith}
use Rattle.std.specs.Prelude.{flat_map, slice_index}
use Rattle.flow_defs.specs.declared.job.Job.{Job}
use Rattle.flow_defs.specs.Jobs.{last_edge, tasks, is_channel}
use Rattle.flow_defs.specs.Tables.{table_of, join}
use Rattle.plain_machine.specs.Cuts.{Cut, SameCut}
use Rattle.plain_machine.specs.Steps.{on_channel}
use Rattle.plain_machine.specs.Worth.{reach, concat_below, in_flight, unread, to_come, all_tables}
use Rattle.plain_machine.specs.Images.{cut_of, takes_of}
use Rattle.plain_machine.specs.Chains.{cut_after, Follows}
use Rattle.plain_machine.specs.Theorems.{SameCutSameWorth, ChainKeepsWorth, ChainGoesOn, StepsMakeChain}
use Rattle.plain_machine.proofs.PlaceLemmas.{concat_below-ext}
use Rattle.plain_machine.proofs.WorthLemmas.{successor_keeps_worth}

on_channel-same : (job : Job) (e a b : ℕ) (xs ys : List (List ℕ)) → (is_channel job e a b ≡ true → xs ≡ ys) → on_channel job e a b xs ≡ on_channel job e a b ys
on_channel-same job e a b xs ys same =
    elim (is_channel job e a b) as (λ t. (t ≡ true → xs ≡ ys) → cond t xs [] ≡ cond t ys []) [ true ↦ λ h. h refl | false ↦ λ h. refl ] same

in_flight-same : (job : Job) (c d : Cut) → SameCut job c d → (e : ℕ) → in_flight job c e ≡ in_flight job d e
in_flight-same job c d same e =
    concat_below-ext (tasks job e) _ _ (λ a _. concat_below-ext (tasks job (suc e)) _ _ (λ b _.
    on_channel-same job e a b (c.flight e a b) (d.flight e a b) (same.flight e a b)))

pub to_come-same : (job : Job) (lines : ℕ → List (List ℕ)) (c d : Cut) → SameCut job c d → (e : ℕ) → to_come job lines c e ≡ to_come job lines d e
to_come-same job lines c d same e =
    ap (λ xs. xs ++ flat_map (reach job 0 e) (unread job lines c))
    (concat_below-ext (suc e) _ _ (λ i _. ap (flat_map (reach job i e)) (in_flight-same job c d same i)))
    ∙ ap (λ xs. concat_below (suc e) (λ i. flat_map (reach job i e) (in_flight job d i)) ++ flat_map (reach job 0 e) xs)
    (concat_below-ext (tasks job 0) _ _ (λ a here. ap (λ o. drop o (lines a)) (same.offsets a here)))

pub same_worth : SameCutSameWorth
same_worth job lines c d same =
    ap (λ tables. join job.agg (tables ++ table_of job.agg (to_come job lines c (last_edge job)) ∷ []))
    (concat_below-ext (tasks job (suc (last_edge job))) _ _ (λ b here. ap (λ t. t ∷ []) (same.tables b here)))
    ∙ ap (λ records. join job.agg (all_tables job d ++ table_of job.agg records ∷ [])) (to_come-same job lines c d same (last_edge job))

pub chain_keeps_worth : ChainKeepsWorth
chain_keeps_worth job lines every base [] is chain = refl
chain_keeps_worth job lines every base (image ∷ images) is chain =
    chain_keeps_worth job lines every image images is chain.1
    ∙ same_worth job lines (cut_of job image) (cut_after job lines base image) chain.0.same
    ∙ successor_keeps_worth job lines (cut_of job base) (takes_of job image) (slice_index image.offsets.items) is chain.0.defined.rise

pub chain_goes_on : ChainGoesOn
chain_goes_on job lines every base [] more chain later = later
chain_goes_on job lines every base (image ∷ images) more chain later = (chain.0, chain_goes_on job lines every image images more chain.1 later)

any_default : {X : Type 0} (xs : List X) (i : ℕ) (d e : X) → i < length xs → get_or xs i d ≡ get_or xs i e
any_default [] i d e low = absurd (omega arith)
any_default (x ∷ xs) zero d e low = refl
any_default (x ∷ xs) (suc i) d e low = any_default xs i d e (omega arith)

pub steps_make_chain : StepsMakeChain
steps_make_chain job lines every base [] step = tt
steps_make_chain job lines every base (image ∷ images) step = (
  step 0 (omega arith),
  steps_make_chain job lines every image images (λ i low.
      let now : Follows job lines every (get_or (image ∷ images) i base) (get_or images i base) = step (suc i) (omega arith) in
      subst (λ old. Follows job lines every old (get_or images i image)) (any_default (image ∷ images) i base image (omega arith))
      (subst (λ new. Follows job lines every (get_or (image ∷ images) i base) new) (any_default images i base image low) now)),
)
