-- Sums in a commutative monoid over the numbers below n.
use Rattle.std.proofs.Common.{◌≡◌, ℕ, zero, suc, ◌<◌, ◌≤◌, cond, eqb, List, [], ◌++◌, refl, sym, ap, ◌∙◌, arith, inl, inr}
use Rattle.std.proofs.lemmas.Bool.{ne_eqb, eq-eqb, cond-true, cond-false, cases_eq}
use Rattle.plain_machine.specs.Worth.{concat_below}

pub record IsMonoid {M : Type 0} (op : M → M → M) (none : M) : Type 0 where
  pub unit : (a : M) → op none a ≡ a
  pub assoc : (a b c : M) → op (op a b) c ≡ op a (op b c)
  pub comm : (a b : M) → op a b ≡ op b a

-- f 0, f 1 and so on, n terms
abbrev pub total : {M : Type 0} → (M → M → M) → M → ℕ → (ℕ → M) → M
total op none zero f = none
total op none (suc n) f = op (total op none n f) (f n)

module _ {M : Type 0} (op : M → M → M) (none : M) (laws : IsMonoid op none) where
  pub unit_right : (a : M) → op a none ≡ a
  unit_right a = laws.comm a none ∙ laws.unit a

  pub exchanged : (a b c d : M) → op (op a b) (op c d) ≡ op (op a c) (op b d)
  exchanged a b c d =
      laws.assoc a b (op c d)
      ∙ ap (op a) (sym (laws.assoc b c d) ∙ ap (λ x. op x d) (laws.comm b c) ∙ laws.assoc c b d)
      ∙ sym (laws.assoc a c (op b d))

  pub total-op : (n : ℕ) (f g : ℕ → M) → total op none n (λ i. op (f i) (g i)) ≡ op (total op none n f) (total op none n g)
  total-op zero f g = sym (laws.unit none)
  total-op (suc n) f g = ap (λ x. op x (op (f n) (g n))) (total-op n f g) ∙ exchanged (total op none n f) (total op none n g) (f n) (g n)

  pub total-ext : (n : ℕ) (f g : ℕ → M) → ((i : ℕ) → i < n → f i ≡ g i) → total op none n f ≡ total op none n g
  total-ext zero f g same = refl
  total-ext (suc n) f g same =
      ap (λ x. op x (f n)) (total-ext n f g (λ i h. same i (omega arith))) ∙ ap (op (total op none n g)) (same n (omega arith))

  pub total-none : (n : ℕ) → total op none n (λ i. none) ≡ none
  total-none zero = refl
  total-none (suc n) = unit_right _ ∙ total-none n

  -- a sum over pairs, either number first
  pub total-swap : (n m : ℕ) (f : ℕ → ℕ → M) → total op none n (λ i. total op none m (f i)) ≡ total op none m (λ j. total op none n (λ i. f i j))
  total-swap zero m f = sym (total-none m)
  total-swap (suc n) m f = ap (λ x. op x (total op none m (f n))) (total-swap n m f) ∙ sym (total-op m (λ j. total op none n (λ i. f i j)) (f n))

  -- a sum with one term
  pub total-elsewhere : (n k : ℕ) (x : M) → n ≤ k → total op none n (λ i. cond (eqb k i) x none) ≡ none
  total-elsewhere zero k x h = refl
  total-elsewhere (suc n) k x h =
      ap (op (total op none n (λ i. cond (eqb k i) x none))) (cond-false (eqb k n) x none (ne_eqb k n (λ e. omega arith)))
      ∙ unit_right _ ∙ total-elsewhere n k x (omega arith)

  pub total-one : (n k : ℕ) (x : M) → k < n → total op none n (λ i. cond (eqb k i) x none) ≡ x
  total-one zero k x h = absurd (omega arith)
  total-one (suc n) k x h = elim (cases_eq k n) [
    | inl e ↦ ap (op (total op none n (λ i. cond (eqb k i) x none))) (cond-true (eqb k n) x none (eq-eqb k n e))
        ∙ ap (λ y. op y x) (total-elsewhere n k x (omega arith)) ∙ laws.unit x
    | inr ne ↦ ap (op (total op none n (λ i. cond (eqb k i) x none))) (cond-false (eqb k n) x none (ne_eqb k n ne))
        ∙ unit_right _ ∙ total-one n k x (omega arith)
  ]

  -- Along edges: what stands on each edge and what comes onto it is what goes off it and what stands
  -- there after, and what goes off one comes onto the next.
  pub along : (last : ℕ) (before after onto off : ℕ → M) → ((e : ℕ) → e ≤ last → op (before e) (onto e) ≡ op (off e) (after e)) → ((e : ℕ) → e < last → off e ≡ onto (suc e)) → (e : ℕ) → e ≤ last → op (total op none (suc e) before) (onto 0) ≡ op (total op none (suc e) after) (off e)
  along last before after onto off over next zero low =
      ap (λ x. op x (onto 0)) (laws.unit (before 0)) ∙ over 0 low ∙ laws.comm (off 0) (after 0) ∙ ap (λ x. op x (off 0)) (sym (laws.unit (after 0)))
  along last before after onto off over next (suc e) low =
      let b = total op none (suc e) before in
      let a = total op none (suc e) after in
      laws.assoc b (before (suc e)) (onto 0)
      ∙ ap (op b) (laws.comm (before (suc e)) (onto 0))
      ∙ sym (laws.assoc b (onto 0) (before (suc e)))
      ∙ ap (λ x. op x (before (suc e))) (along last before after onto off over next e (omega arith))
      ∙ laws.assoc a (off e) (before (suc e))
      ∙ ap (op a) (ap (λ x. op x (before (suc e))) (next e (omega arith)) ∙ laws.comm (onto (suc e)) (before (suc e)) ∙ over (suc e) low ∙ laws.comm (off (suc e)) (after (suc e)))
      ∙ sym (laws.assoc a (after (suc e)) (off (suc e)))

-- a weight of lists that adds up
pub record IsWeight {X M : Type 0} (op : M → M → M) (none : M) (weigh : List X → M) : Type 0 where
  pub nil : weigh [] ≡ none
  pub append : (xs ys : List X) → weigh (xs ++ ys) ≡ op (weigh xs) (weigh ys)

pub weigh-concat_below : {X M : Type 0} {op : M → M → M} {none : M} {weigh : List X → M} → IsWeight op none weigh → (n : ℕ) (f : ℕ → List X) → weigh (concat_below n f) ≡ total op none n (λ i. weigh (f i))
weigh-concat_below adds zero f = adds.nil
weigh-concat_below {op = op} {weigh = weigh} adds (suc n) f = adds.append (concat_below n f) (f n) ∙ ap (λ x. op x (weigh (f n))) (weigh-concat_below adds n f)
