-- What stands where in a list.
use Rattle.std.proofs.Common.{◌≡◌, ◌⊎◌, ℕ, zero, suc, ◌+◌, ◌<◌, List, [], ◌∷◌, ◌++◌, length, Some, refl, sym, ap, ◌∙◌, subst, arith, inl, inr}
use Rattle.std.proofs.lemmas.Option.{same_Some}
use Rattle.std.specs.Prelude.{slice_get, slice_set}
use mathlib.Core.Option.{some}
use lib.ListN.{get_elem?}

module _ {A : Type 0} where
  -- What stands in front stays where it is, and the last item stands last.
  pub elem_in_front : (xs ys : List A) (k : ℕ) (x : A) → get_elem? xs k ≡ some x → get_elem? (xs ++ ys) k ≡ some x
  elem_in_front [] ys k x at = absurd (cc)
  elem_in_front (y ∷ xs) ys zero x at = at
  elem_in_front (y ∷ xs) ys (suc k) x at = elem_in_front xs ys k x at

  pub elem_at_last : (xs : List A) (x : A) → get_elem? (xs ++ x ∷ []) (length xs) ≡ some x
  elem_at_last [] x = refl
  elem_at_last (y ∷ xs) x = elem_at_last xs x

  -- The two look-ups by a place agree.
  pub elem_of : (xs : List A) (k : ℕ) (x : A) → slice_get xs k ≡ Some x → get_elem? xs k ≡ some x
  elem_of [] k x at = absurd (cc)
  elem_of (y ∷ xs) zero x at = (let e : y ≡ x = cc in ap some e)
  elem_of (y ∷ xs) (suc k) x at = elem_of xs k x at

  pub in_front : (xs ys : List A) (k : ℕ) (x : A) → slice_get xs k ≡ Some x → slice_get (xs ++ ys) k ≡ Some x
  in_front [] ys k x at = absurd (cc)
  in_front (y ∷ xs) ys zero x at = at
  in_front (y ∷ xs) ys (suc k) x at = in_front xs ys k x at

  pub get_front : (xs ys : List A) (i : ℕ) → i < length xs → slice_get (xs ++ ys) i ≡ slice_get xs i
  get_front [] ys i low = absurd (omega arith)
  get_front (x ∷ xs) ys zero low = refl
  get_front (x ∷ xs) ys (suc i) low = get_front xs ys i (omega arith)

  pub get_behind : (xs ys : List A) (j : ℕ) → slice_get (xs ++ ys) (length xs + j) ≡ slice_get ys j
  get_behind [] ys j = ap (slice_get ys) (let z : 0 + j ≡ j = omega arith in z)
  get_behind (x ∷ xs) ys j = ap (slice_get (x ∷ (xs ++ ys))) (let z : suc (length xs) + j ≡ suc (length xs + j) = omega arith in z) ∙ get_behind xs ys j

  pub at_last : (xs : List A) (x : A) (k : ℕ) → k ≡ length xs → slice_get (xs ++ x ∷ []) k ≡ Some x
  at_last [] x zero e = refl
  at_last [] x (suc k) e = absurd (omega arith)
  at_last (y ∷ xs) x zero e = absurd (omega arith)
  at_last (y ∷ xs) x (suc k) e = at_last xs x k (omega arith)

  -- A place below the length has something.
  pub at_place : (xs : List A) (i : ℕ) → i < length xs → (x : A) × (slice_get xs i ≡ Some x)
  at_place [] i h = absurd (omega arith)
  at_place (x ∷ xs) zero h = (x, refl)
  at_place (x ∷ xs) (suc i) h = at_place xs i (omega arith)

  -- What holds at each place still holds with one more item for which it holds.
  pub each_push : (F : ℕ → A → Type 0) (xs : List A) (x : A) → ((k : ℕ) (y : A) → slice_get xs k ≡ Some y → F k y) → F (length xs) x →
      (k : ℕ) (y : A) → slice_get (xs ++ x ∷ []) k ≡ Some y → F k y
  each_push F [] x each last zero y at = subst (F 0) (same_Some x y at) last
  each_push F [] x each last (suc k) y at = absurd (cc)
  each_push F (z ∷ xs) x each last zero y at = each 0 y at
  each_push F (z ∷ xs) x each last (suc k) y at =
      each_push (λ j. F (suc j)) xs x (λ j. each (suc j)) last k y at

  -- What stands in a list of which one item was replaced.
  pub after_set : (xs : List A) (i : ℕ) (y : A) (k : ℕ) (z : A) → slice_get (slice_set xs i y) k ≡ Some z → ((k ≡ i) × (z ≡ y)) ⊎ ((k ≡ i → ⊥) × (slice_get xs k ≡ Some z))
  after_set [] i y k z at = absurd (cc)
  after_set (x ∷ xs) zero y zero z at = inl (refl, sym (same_Some y z at))
  after_set (x ∷ xs) zero y (suc k) z at = inr ((λ e. omega (arith, e)), at)
  after_set (x ∷ xs) (suc i) y zero z at = inr ((λ e. omega (arith, e)), at)
  after_set (x ∷ xs) (suc i) y (suc k) z at = elim (after_set xs i y k z at) [
    | inl same ↦ inl (ap suc same.0, same.1)
    | inr else ↦ inr ((λ e. else.0 (omega (arith, e))), else.1)
  ]

-- What holds at each place of two lists still holds with one more pair for which it holds.
pub pairs_push : {A B : Type 0} (F : ℕ → A → B → Type 0) (xs : List A) (ys : List B) (x : A) (y : B) → length ys ≡ length xs →
    ((k : ℕ) (a : A) (b : B) → slice_get xs k ≡ Some a → slice_get ys k ≡ Some b → F k a b) → F (length xs) x y →
    (k : ℕ) (a : A) (b : B) → slice_get (xs ++ x ∷ []) k ≡ Some a → slice_get (ys ++ y ∷ []) k ≡ Some b → F k a b
pairs_push F [] [] x y same each last zero a b at at' = subst (λ z. F 0 z b) (same_Some x a at) (subst (λ z. F 0 x z) (same_Some y b at') last)
pairs_push F [] [] x y same each last (suc k) a b at at' = absurd (cc)
pairs_push F [] (q ∷ qs) x y same each last k a b at at' = absurd (omega arith)
pairs_push F (p ∷ ps) [] x y same each last k a b at at' = absurd (omega arith)
pairs_push F (p ∷ ps) (q ∷ qs) x y same each last zero a b at at' = each 0 a b at at'
pairs_push F (p ∷ ps) (q ∷ qs) x y same each last (suc k) a b at at' =
    pairs_push (λ j. F (suc j)) ps qs x y (omega arith) (λ j. each (suc j)) last k a b at at'
