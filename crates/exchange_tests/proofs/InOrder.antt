-- Items that each fit their place, as the last one goes and comes back.
use Rattle.std.proofs.Common.{◌≡◌, ℕ, zero, suc, ◌<◌, List, [], ◌∷◌, ◌++◌, length, get_or, sym, refl, ap, ◌∙◌, subst}
use mathlib.Core.Option.{some, some-injective, some-ne-none}
use lib.ListN.{get_elem?}

module _ {A : Type 0} where
  abbrev pub InOrder : (ℕ → A → Type 0) → List A → Type 0
  InOrder Fits xs = (k : ℕ) (x : A) → get_elem? xs k ≡ some x → Fits k x

  at_last : (xs : List A) (x : A) → get_elem? (xs ++ x ∷ []) (length xs) ≡ some x
  at_last [] x = refl
  at_last (y ∷ ys) x = at_last ys x

  at_front : (xs : List A) (x : A) (k : ℕ) (y : A) → get_elem? xs k ≡ some y → get_elem? (xs ++ x ∷ []) k ≡ some y
  at_front [] x k y e = absurd (some-ne-none y (sym e))
  at_front (z ∷ zs) x zero y e = e
  at_front (z ∷ zs) x (suc k) y e = at_front zs x k y e

  pub last_fits : (Fits : ℕ → A → Type 0) (all rest : List A) (x : A) → all ≡ rest ++ x ∷ [] → InOrder Fits all → Fits (length rest) x
  last_fits Fits all rest x e fit = fit (length rest) x (ap (λ l. get_elem? l (length rest)) e ∙ at_last rest x)

  pub rest_fits : (Fits : ℕ → A → Type 0) (all rest : List A) (x : A) → all ≡ rest ++ x ∷ [] → InOrder Fits all → InOrder Fits rest
  rest_fits Fits all rest x e fit k y at = fit k y (ap (λ l. get_elem? l k) e ∙ at_front rest x k y at)

  one_more : (Fits : ℕ → A → Type 0) (rest : List A) (x : A) → InOrder Fits rest → Fits (length rest) x → InOrder Fits (rest ++ x ∷ [])
  one_more Fits [] x fit last zero y at = subst (Fits 0) (some-injective x y at) last
  one_more Fits [] x fit last (suc k) y at = absurd (some-ne-none y (sym at))
  one_more Fits (z ∷ zs) x fit last zero y at = fit 0 y at
  one_more Fits (z ∷ zs) x fit last (suc k) y at = one_more (λ n. Fits (suc n)) zs x (λ n. fit (suc n)) last k y at

  pub all_fit : (Fits : ℕ → A → Type 0) (all rest : List A) (x : A) → all ≡ rest ++ x ∷ [] → InOrder Fits rest → Fits (length rest) x → InOrder Fits all
  all_fit Fits all rest x e fit last = subst (InOrder Fits) (sym e) (one_more Fits rest x fit last)

-- what fits at these limits and this number
pub below : (limits same : List ℕ) (number place out : ℕ) → limits ≡ same → number ≡ place → (0 < length same) × (out < get_or same place 0) → (0 < length limits) × (out < get_or limits number 0)
below limits same number place out e f h =
    subst (λ (l : List ℕ). (0 < length l) × (out < get_or l number 0)) (sym e) (subst (λ (n : ℕ). (0 < length same) × (out < get_or same n 0)) (sym f) h)
