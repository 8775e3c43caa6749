-- Lists of passes that go out and come back.
use Rattle.std.proofs.Common.{◌≡◌, ℕ, zero, suc, ◌<◌, ◌⊎◌, inl, inr, ⊎_elim, List, [], ◌∷◌, ◌++◌, length, sym, refl, ap, ◌∙◌, subst, arith, length-append}
use mathlib.Core.Option.{some, some-injective, some-ne-none}
use lib.ListN.{get_elem?}
use Rattle.turn_cell.specs.declared.cell.TurnCell.{TurnCell}
use Rattle.turn_cell.specs.declared.pass.Pass.{Pass}
use Rattle.turn_cell.specs.Passes.{IsPassOf, number, passes_of}
use Rattle.turn_cell.specs.Closing.{AreFresh, AreAll}
use Rattle.turn_tests.specs.Crowds.{ArePassesOf, AreBack}

module _ {A : Type 0} where
  at_end : (l : List A) (a b : A) (j : ℕ) → get_elem? (l ++ a ∷ []) j ≡ some b → (get_elem? l j ≡ some b) ⊎ ((j ≡ length l) × (a ≡ b))
  at_end [] a b zero e = inr (refl, some-injective a b e)
  at_end [] a b (suc j) e = absurd (some-ne-none b (sym e))
  at_end (x ∷ xs) a b zero e = inl e
  at_end (x ∷ xs) a b (suc j) e = ⊎_elim (λ h. inl h) (λ h. inr (ap suc h.0, h.1)) (at_end xs a b j e)

  at_last : (l : List A) (a : A) → get_elem? (l ++ a ∷ []) (length l) ≡ some a
  at_last [] a = refl
  at_last (x ∷ xs) a = at_last xs a

  at_longer : (l m : List A) (j : ℕ) (a : A) → get_elem? l j ≡ some a → get_elem? (l ++ m) j ≡ some a
  at_longer [] m j a e = absurd (some-ne-none a (sym e))
  at_longer (x ∷ xs) m zero a e = e
  at_longer (x ∷ xs) m (suc j) a e = at_longer xs m j a e

  within : (l : List A) (j : ℕ) (a : A) → get_elem? l j ≡ some a → j < length l
  within [] j a e = absurd (some-ne-none a (sym e))
  within (x ∷ xs) zero a e = omega arith
  within (x ∷ xs) (suc j) a e = let r = within xs j a e in omega arith

  some_at : (l : List A) (i : ℕ) → i < length l → (a : A) × (get_elem? l i ≡ some a)
  some_at [] i h = absurd (omega arith)
  some_at (x ∷ xs) zero h = (x, refl)
  some_at (x ∷ xs) (suc i) h = some_at xs i (omega arith)

module _ {S E F : Type 0} (cell : TurnCell S E F) where
  pub last_goes : (ps rest : List (Pass S E F)) (p : Pass S E F) → ps ≡ rest ++ p ∷ [] → ArePassesOf cell ps → IsPassOf cell p
  last_goes ps rest p e all = all (length rest) p (ap (λ l. get_elem? l (length rest)) e ∙ at_last rest p)

  pub rest_goes : (ps rest : List (Pass S E F)) (p : Pass S E F) → ps ≡ rest ++ p ∷ [] → ArePassesOf cell ps → ArePassesOf cell rest
  rest_goes ps rest p e all k q at = all k q (ap (λ l. get_elem? l k) e ∙ at_longer rest (p ∷ []) k q at)

  pub comes_back : (ps rest back all : List (Pass S E F)) (p q : Pass S E F) → ps ≡ rest ++ p ∷ [] → all ≡ back ++ q ∷ [] → AreBack cell rest back → IsPassOf cell q × (number q ≡ number p) → AreBack cell ps all
  comes_back ps rest back all p q e f b one =
      let m = ap length e in let n = ap length f in let i = length-append rest (p ∷ []) in let j = length-append back (q ∷ []) in let same = b.0 in (
        omega arith,
        λ k x y at_x at_y. ⊎_elim
            (λ (x_in : get_elem? rest k ≡ some x). ⊎_elim
            (λ (y_in : get_elem? back k ≡ some y). b.1 k x y x_in y_in)
            (λ (y_is : (k ≡ length back) × (q ≡ y)). let low = within rest k x x_in in let k_is = y_is.0 in absurd (omega arith))
            (at_end back q y k (ap (λ l. get_elem? l k) (sym f) ∙ at_y)))
            (λ (x_is : (k ≡ length rest) × (p ≡ x)). ⊎_elim
            (λ (y_in : get_elem? back k ≡ some y). let low = within back k y y_in in let k_is = x_is.0 in absurd (omega arith))
            (λ (y_is : (k ≡ length back) × (q ≡ y)). subst (λ (z : Pass S E F × Pass S E F). IsPassOf cell z.1 × (number z.1 ≡ number z.0)) (λ h. (x_is.1 h, y_is.1 h)) one)
            (at_end back q y k (ap (λ l. get_elem? l k) (sym f) ∙ at_y)))
            (at_end rest p x k (ap (λ l. get_elem? l k) (sym e) ∙ at_x)),
      )

  pub all_back : (ps qs : List (Pass S E F)) → AreFresh cell ps → length ps ≡ passes_of cell → AreBack cell ps qs → AreAll cell qs
  all_back ps qs fresh count b = (b.0 ∙ count, λ k q at. let low = within qs k q at in let same = b.0 in let p = some_at ps k (omega arith) in let h = b.1 k p.0 q p.1 at in (h.0, h.1 ∙ (fresh k p.0 p.1).1.0))
