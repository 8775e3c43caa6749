-- What comes over one edge in a step: nothing is lost, and nothing comes twice.
use Rattle.std.proofs.Common.{◌≡◌, ℕ, suc, ◌<◌, ◌≤◌, true, false, cond, eqb, List, [], ◌∷◌, drop, refl, sym, ap, ◌∙◌}
use Rattle.std.proofs.lemmas.Bool.{cond-false}
use Rattle.flow_defs.specs.declared.job.Job.{Job}
use Rattle.flow_defs.specs.declared.image.TakeRun.{TakeRun}
use Rattle.flow_defs.specs.Jobs.{last_edge, tasks, is_channel, IsJob}
use Rattle.plain_machine.specs.Cuts.{Cut}
use Rattle.plain_machine.specs.Emitting.{receiver_on, emit}
use Rattle.plain_machine.specs.Weaving.{rests, behind}
use Rattle.plain_machine.specs.Steps.{on_channel, avail, sent, taken, left, next}
use Rattle.plain_machine.specs.Worth.{concat_below, in_flight}
use Rattle.plain_machine.proofs.Sums.{IsMonoid, IsWeight, total, total-op, total-ext, total-swap, weigh-concat_below}
use Rattle.plain_machine.proofs.Conserved.{NoneFrom, total-woven, total-emit, drop_nil}
use Rattle.plain_machine.proofs.Channels.{channel_of, no_channel, channel_to, on_channel-append}

-- runs leave nothing where nothing was
rests-none : (runs : List TakeRun) (avail : ℕ → List (List ℕ)) (a : ℕ) → avail a ≡ [] → rests runs avail a ≡ []
rests-none [] avail a e = e
rests-none (run ∷ runs) avail a e =
    rests-none runs (behind run avail) a (elim (eqb run.from a) as (λ b. cond b (drop run.count (avail a)) (avail a) ≡ []) [
      | true ↦ ap (drop run.count) e ∙ drop_nil run.count
      | false ↦ e
    ])

module _ (job : Job) (lines : ℕ → List (List ℕ)) (cut : Cut) (takes : ℕ → ℕ → List TakeRun) (offsets : ℕ → ℕ) (is : IsJob job)
    {M : Type 0} (op : M → M → M) (none : M) (laws : IsMonoid op none) where
  -- what an edge carries, and what was in flight there, comes again as what is taken from it and what is in flight after
  pub over_edge : (e : ℕ) → e ≤ last_edge job → (weigh : List (List ℕ) → M) → IsWeight op none weigh →
      op (weigh (in_flight job cut e)) (total op none (tasks job e) (λ a. weigh (sent job lines cut takes offsets e a)))
      ≡ op (total op none (tasks job (suc e)) (λ b. weigh (taken job lines cut takes offsets e b))) (weigh (in_flight job (next job lines cut takes offsets) e))
  over_edge e low weigh adds =
      ap (λ x. op x (total op none m (λ a. weigh (send a)))) (flights cut)
      ∙ sym (total-op op none laws m (λ a. total op none n (λ b. weigh (on_channel job e a b (cut.flight e a b)))) (λ a. weigh (send a)))
      ∙ total-ext op none laws m _ (λ a. total op none n (λ b. weigh (come b a))) (λ a h. sym (from_one a h))
      ∙ total-swap op none laws m n (λ a b. weigh (come b a))
      ∙ total-ext op none laws n (λ b. total op none m (λ a. weigh (come b a))) _ (λ b h. total-woven op none laws weigh adds m (takes (suc e) b) (come b) (none_from b))
      ∙ total-op op none laws n (λ b. weigh (taken job lines cut takes offsets e b)) (λ b. total op none m (λ a. weigh (left job lines cut takes offsets e a b)))
      ∙ ap (op (total op none n (λ b. weigh (taken job lines cut takes offsets e b)))) (sym left_over)
    where
      m : ℕ
      m = tasks job e

      n : ℕ
      n = tasks job (suc e)

      send : ℕ → List (List ℕ)
      send a = sent job lines cut takes offsets e a

      come : ℕ → ℕ → List (List ℕ)
      come b a = avail job lines cut takes offsets e b (sent job lines cut takes offsets e) a

      flights : (c : Cut) → weigh (in_flight job c e) ≡ total op none (tasks job e) (λ a. total op none (tasks job (suc e)) (λ b. weigh (on_channel job e a b (c.flight e a b))))
      flights c = weigh-concat_below adds (tasks job e) (λ a. concat_below (tasks job (suc e)) (λ b. on_channel job e a b (c.flight e a b)))
          ∙ total-ext op none laws (tasks job e) _ _ (λ a h. weigh-concat_below adds (tasks job (suc e)) (λ b. on_channel job e a b (c.flight e a b)))

      from_one : (a : ℕ) → a < tasks job e → total op none (tasks job (suc e)) (λ b. weigh (come b a)) ≡ op (total op none (tasks job (suc e)) (λ b. weigh (on_channel job e a b (cut.flight e a b)))) (weigh (send a))
      from_one a h =
          let to = channel_to job e a is low h in
          total-ext op none laws (tasks job (suc e)) _ (λ b. op (weigh (on_channel job e a b (cut.flight e a b))) (weigh (on_channel job e a b (emit (receiver_on job e a) (cut.emitted e a) (send a) b))))
          (λ b _. ap weigh (on_channel-append job e a b (cut.flight e a b) (emit (receiver_on job e a) (cut.emitted e a) (send a) b)) ∙ adds.append _ _)
          ∙ total-op op none laws (tasks job (suc e)) _ _
          ∙ ap (op (total op none (tasks job (suc e)) (λ b. weigh (on_channel job e a b (cut.flight e a b)))))
          (total-emit op none laws weigh adds (tasks job (suc e)) (is_channel job e a) (receiver_on job e a) (λ k r. (to k r).receiver) (λ k r. channel_of job e a _ (to k r)) (cut.emitted e a) (send a))

      none_from : (b : ℕ) → NoneFrom (tasks job e) (come b)
      none_from b a h = cond-false (is_channel job e a b) _ _ (no_channel job e a b h)

      kept : (a b : ℕ) → on_channel job e a b (left job lines cut takes offsets e a b) ≡ left job lines cut takes offsets e a b
      kept a b = elim (is_channel job e a b) as (λ t. is_channel job e a b ≡ t → cond t (left job lines cut takes offsets e a b) [] ≡ left job lines cut takes offsets e a b) [
        | true ↦ λ t. refl
        | false ↦ λ t. sym (rests-none (takes (suc e) b) (come b) a (cond-false (is_channel job e a b) _ _ t))
      ] refl

      left_over : weigh (in_flight job (next job lines cut takes offsets) e) ≡ total op none (tasks job (suc e)) (λ b. total op none (tasks job e) (λ a. weigh (left job lines cut takes offsets e a b)))
      left_over =
          flights (next job lines cut takes offsets)
          ∙ total-ext op none laws (tasks job e) _ _ (λ a _. total-ext op none laws (tasks job (suc e)) _ (λ b. weigh (left job lines cut takes offsets e a b)) (λ b _. ap weigh (kept a b)))
          ∙ total-swap op none laws (tasks job e) (tasks job (suc e)) (λ a b. weigh (left job lines cut takes offsets e a b))
