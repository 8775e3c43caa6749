-- A further pass beside those that are made.
use Rattle.std.proofs.Common.{◌≡◌, ℕ, zero, suc, ◌+◌, ◌<◌, ⊎_elim, List, [], ◌∷◌, ◌++◌, length, get_or, set, refl, subst, arith, length-append}
use mathlib.Core.Option.{some, some-injective}
use lib.ListN.{get_elem?}
use Rattle.turn_cell.specs.declared.cell.TurnCell.{TurnCell}
use Rattle.turn_cell.specs.declared.pass.Pass.{Pass}
use Rattle.turn_cell.specs.Passes.{IsPassOf}
use Rattle.turn_cell.specs.Closing.{IsFresh}
use Rattle.turn_cell.specs.Making.{IsFirst, AreMade}
use Rattle.turn_cell.proofs.Lists.{at_end}

module _ {S E F : Type 0} (cell : TurnCell S E F) where
  abbrev P : Type 0
  P = Pass S E F

  abbrev Fits : ℕ → P → Type 0
  Fits k p = IsPassOf cell p × IsFresh k p

  pub first_made : (n : ℕ) (ps : List P) (d : P) → AreMade cell n ps → 0 < n → IsFirst cell n (get_or ps 0 d)
  first_made n [] d h more = let e = h.1 in absurd (omega arith)
  first_made n (x ∷ xs) d h more = h.2 x refl

  pub more_made : (n : ℕ) (ps : List P) (p q : P) → AreMade cell n ps → 0 < n → IsFirst cell (n + 1) p → Fits n q → AreMade cell (n + 1) (set ps 0 p ++ q ∷ []) × (length (set ps 0 p) ≡ length ps)
  more_made n [] p q h more first fits = let e = h.1 in absurd (omega arith)
  more_made n (x ∷ xs) p q h more first fits =
      let all : (k : ℕ) (a : P) → get_elem? (p ∷ xs ++ q ∷ []) k ≡ some a → Fits k a = λ k a at. (elim k as (λ (j : ℕ). get_elem? (p ∷ xs ++ q ∷ []) j ≡ some a → Fits j a) [
        | zero ↦ λ e. subst (Fits 0) (some-injective p a e) (first.0, first.1)
        | suc j ↦ λ e. ⊎_elim
            (λ (here : get_elem? xs j ≡ some a). h.0 (suc j) a here)
            (λ (last : (j ≡ length xs) × (q ≡ a)). let l = h.1 in let j_is = last.0 in subst (λ (z : ℕ × P). Fits z.0 z.1) (λ i. ((let e : n ≡ suc j = omega arith in e) i, last.1 i)) fits)
            (at_end xs q a j e)
      ]) at in
      ((all, (let l = h.1 in let m = length-append xs (q ∷ []) in omega arith), λ a at. subst (IsFirst cell (n + 1)) (some-injective p a at) first), refl)
