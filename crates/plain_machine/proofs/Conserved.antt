-- Weaving and emitting lose nothing: the weight of what is taken and left is that of what was there.
use Rattle.std.proofs.Common.{◌≡◌, ℕ, zero, suc, ◌<◌, ◌≤◌, Bool, true, false, cond, eqb, List, [], ◌∷◌, take, drop, refl, sym, ap, subst, ◌∙◌, inl, inr}
use Rattle.std.proofs.lemmas.Bool.{eqb-true, cond-true, cases_lt}
use Rattle.std.proofs.Math.ListN.{take-append-drop}
use Rattle.flow_defs.specs.declared.image.TakeRun.{TakeRun}
use Rattle.plain_machine.specs.Emitting.{emit, next_count}
use Rattle.plain_machine.specs.Weaving.{behind, woven, rests}
use Rattle.plain_machine.proofs.Sums.{IsMonoid, IsWeight, total, total-op, total-ext, total-none, total-one, total-elsewhere}

pub take_nil : (n : ℕ) → ◌≡◌ {A = List (List ℕ)} (take n []) []
take_nil zero = refl
take_nil (suc n) = refl

pub drop_nil : (n : ℕ) → ◌≡◌ {A = List (List ℕ)} (drop n []) []
drop_nil zero = refl
drop_nil (suc n) = refl

-- nothing comes from a number that is no sender
abbrev pub NoneFrom : ℕ → (ℕ → List (List ℕ)) → Type 0
NoneFrom n avail = (a : ℕ) → n ≤ a → avail a ≡ []

module _ {M : Type 0} (op : M → M → M) (none : M) (laws : IsMonoid op none) (weigh : List (List ℕ) → M) (adds : IsWeight op none weigh) where
  behind-NoneFrom : (n : ℕ) (run : TakeRun) (avail : ℕ → List (List ℕ)) → NoneFrom n avail → NoneFrom n (behind run avail)
  behind-NoneFrom n run avail none_from a h =
      elim (eqb run.from a) as (λ b. cond b (drop run.count (avail a)) (avail a) ≡ []) [
        | true ↦ ap (drop run.count) (none_from a h) ∙ drop_nil run.count
        | false ↦ none_from a h
      ]

  -- what is taken by one run
  one_run : (n : ℕ) (run : TakeRun) (avail : ℕ → List (List ℕ)) → NoneFrom n avail → total op none n (λ a. weigh (avail a)) ≡ op (weigh (take run.count (avail run.from))) (total op none n (λ a. weigh (behind run avail a)))
  one_run n run avail none_from =
      let x = weigh (take run.count (avail run.from)) in
      total-ext op none laws n (λ a. weigh (avail a)) (λ a. op (cond (eqb run.from a) x none) (weigh (behind run avail a))) (λ a h. split a)
      ∙ total-op op none laws n (λ a. cond (eqb run.from a) x none) (λ a. weigh (behind run avail a))
      ∙ ap (λ y. op y (total op none n (λ a. weigh (behind run avail a)))) alone
    where
      split : (a : ℕ) → weigh (avail a) ≡ op (cond (eqb run.from a) (weigh (take run.count (avail run.from))) none) (weigh (behind run avail a))
      split a = elim (eqb run.from a) as (λ b. eqb run.from a ≡ b → weigh (avail a) ≡ op (cond b (weigh (take run.count (avail run.from))) none) (weigh (cond b (drop run.count (avail a)) (avail a)))) [
        | true ↦ λ e. ap weigh (sym (take-append-drop run.count (avail a))) ∙ adds.append (take run.count (avail a)) (drop run.count (avail a))
            ∙ ap (λ k. op (weigh (take run.count (avail k))) (weigh (drop run.count (avail a)))) (sym (eqb-true run.from a e))
        | false ↦ λ e. sym (laws.unit (weigh (avail a)))
      ] refl

      alone : total op none n (λ a. cond (eqb run.from a) (weigh (take run.count (avail run.from))) none) ≡ weigh (take run.count (avail run.from))
      alone = elim (cases_lt run.from n) [
        | inl h ↦ total-one op none laws n run.from _ h
        | inr h ↦ total-elsewhere op none laws n run.from _ h ∙ sym (ap (λ xs. weigh (take run.count xs)) (none_from run.from h) ∙ ap weigh (take_nil run.count) ∙ adds.nil)
      ]

  pub total-woven : (n : ℕ) (runs : List TakeRun) (avail : ℕ → List (List ℕ)) → NoneFrom n avail → total op none n (λ a. weigh (avail a)) ≡ op (weigh (woven runs avail)) (total op none n (λ a. weigh (rests runs avail a)))
  total-woven n [] avail none_from = sym (ap (λ y. op y (total op none n (λ a. weigh (avail a)))) adds.nil ∙ laws.unit _)
  total-woven n (run ∷ runs) avail none_from =
      one_run n run avail none_from
      ∙ ap (op (weigh (take run.count (avail run.from)))) (total-woven n runs (behind run avail) (behind-NoneFrom n run avail none_from))
      ∙ sym (laws.assoc _ _ _)
      ∙ ap (λ y. op y (total op none n (λ a. weigh (rests runs (behind run avail) a)))) (sym (adds.append (take run.count (avail run.from)) (woven runs (behind run avail))))

  -- each record comes to one receiver
  pub total-emit : (ways : ℕ) (ok : ℕ → Bool) (to : ℕ → List ℕ → ℕ) → ((n : ℕ) (r : List ℕ) → to n r < ways) → ((n : ℕ) (r : List ℕ) → ok (to n r) ≡ true) → (n : ℕ) (rs : List (List ℕ)) → total op none ways (λ b. weigh (cond (ok b) (emit to n rs b) [])) ≡ weigh rs
  total-emit ways ok to low all n [] =
      total-ext op none laws ways (λ b. weigh (cond (ok b) [] [])) (λ b. none) (λ b h. elim (ok b) as (λ t. weigh (cond t [] []) ≡ none) [ true ↦ adds.nil | false ↦ adds.nil ])
      ∙ total-none op none laws ways ∙ sym adds.nil
  total-emit ways ok to low all n (r ∷ rs) =
      total-ext op none laws ways (λ b. weigh (cond (ok b) (emit to n (r ∷ rs) b) [])) (λ b. op (cond (eqb (to n r) b) (weigh (r ∷ [])) none) (weigh (cond (ok b) (emit to (next_count n) rs b) []))) (λ b h. split b)
      ∙ total-op op none laws ways (λ b. cond (eqb (to n r) b) (weigh (r ∷ [])) none) (λ b. weigh (cond (ok b) (emit to (next_count n) rs b) []))
      ∙ ap (λ y. op y (total op none ways (λ b. weigh (cond (ok b) (emit to (next_count n) rs b) [])))) (total-one op none laws ways (to n r) (weigh (r ∷ [])) (low n r))
      ∙ ap (op (weigh (r ∷ []))) (total-emit ways ok to low all (next_count n) rs)
      ∙ sym (adds.append (r ∷ []) rs)
    where
      split : (b : ℕ) → weigh (cond (ok b) (cond (eqb (to n r) b) (r ∷ emit to (next_count n) rs b) (emit to (next_count n) rs b)) []) ≡ op (cond (eqb (to n r) b) (weigh (r ∷ [])) none) (weigh (cond (ok b) (emit to (next_count n) rs b) []))
      split b = let more = emit to (next_count n) rs b in
          elim (eqb (to n r) b) as (λ t. eqb (to n r) b ≡ t → weigh (cond (ok b) (cond t (r ∷ emit to (next_count n) rs b) (emit to (next_count n) rs b)) []) ≡ op (cond t (weigh (r ∷ [])) none) (weigh (cond (ok b) (emit to (next_count n) rs b) []))) [
            | true ↦ λ e. let is : ok b ≡ true = subst (λ k. ok k ≡ true) (eqb-true (to n r) b e) (all n r) in
                ap weigh (cond-true (ok b) (r ∷ more) [] is) ∙ adds.append (r ∷ []) more ∙ ap (λ y. op (weigh (r ∷ [])) (weigh y)) (sym (cond-true (ok b) more [] is))
            | false ↦ λ e. sym (laws.unit _)
          ] refl
