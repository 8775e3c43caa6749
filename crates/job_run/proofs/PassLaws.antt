-- The passes of a new cell, as they are dealt.
use Rattle.std.proofs.Common.{◌≡◌, ℕ, zero, suc, ◌+◌, ◌-◌, ◌<◌, List, [], ◌∷◌, ◌++◌, reverse, length, get_or, refl, sym, ap, subst, ◌∙◌, arith}
use Rattle.std.specs.Prelude.{All}
use Rattle.std.proofs.lemmas.List.{reverse-append, reverse-reverse, length-reverse, get_or-reverse}
use Rattle.std.proofs.lemmas.List.Elements.{All-weaker}
use mathlib.Core.Option.{some}
use lib.ListN.{get_elem?}
use Rattle.turn_cell.specs.declared.cell.TurnCell.{TurnCell}
use Rattle.turn_cell.specs.declared.pass.Pass.{Pass}
use Rattle.turn_cell.specs.Passes.{IsPassOf, mine, number}
use Rattle.turn_cell.specs.Closing.{AreFresh}

module _ {A : Type 0} where
  elem_at : (xs : List A) (k : ℕ) (d : A) → k < length xs → get_elem? xs k ≡ some (get_or xs k d)
  elem_at [] k d low = absurd (omega arith)
  elem_at (x ∷ xs) zero d low = refl
  elem_at (x ∷ xs) (suc k) d low = elem_at xs k d (omega arith)

  -- Of each of a list, and so of each but the last one, and of that.
  pub all_front : (P : A → Type 0) (xs : List A) (x : A) → All P (xs ++ x ∷ []) → All P xs
  all_front P [] x all k d low = absurd (omega arith)
  all_front P (y ∷ xs) x all zero d low = all 0 d (omega arith)
  all_front P (y ∷ xs) x all (suc k) d low = all_front P xs x (λ j e within. all (suc j) e (omega (arith, within))) k d (omega (arith, low))

  pub all_last : (P : A → Type 0) (xs : List A) (x : A) → All P (xs ++ x ∷ []) → P x
  all_last P [] x all = all 0 x (omega arith)
  all_last P (y ∷ xs) x all = all_last P xs x (λ j e within. all (suc j) e (omega (arith, within)))

  all_turned : (P : A → Type 0) (xs : List A) → All P xs → All P (reverse xs)
  all_turned P xs all k d low =
      let many = length-reverse xs in
      let within : k < length xs = omega (arith, low, many) in
      subst P (sym (get_or-reverse xs k d within)) (all (length xs - 1 - k) d (omega (arith, within)))

  -- What stands last in a list that was turned stood first.
  was_first : (xs rest : List A) (x : A) → reverse xs ≡ rest ++ x ∷ [] → xs ≡ x ∷ reverse rest
  was_first xs rest x is = sym (reverse-reverse xs) ∙ ap reverse is ∙ reverse-append rest (x ∷ [])

module _ {S E F : Type 0} (cell : TurnCell S E F) (passes : List (Pass S E F)) (fresh : AreFresh cell passes) where
  pub all_told_nothing : All (λ (pass : Pass S E F). IsPassOf cell pass × (mine pass ≡ [])) passes
  all_told_nothing k d low = let new = fresh k (get_or passes k d) (elem_at passes k d low) in (new.0, new.1.2)

  -- The last two, and the rest.
  module _ {front : List (Pass S E F)} (rest : List (Pass S E F)) (last other : Pass S E F) (front_is : passes ≡ front ++ last ∷ []) (rest_is : front ≡ rest ++ other ∷ []) where
    all_before : All (λ (pass : Pass S E F). IsPassOf cell pass × (mine pass ≡ [])) (rest ++ other ∷ [])
    all_before =
        subst (All (λ (pass : Pass S E F). IsPassOf cell pass × (mine pass ≡ []))) rest_is
        (all_front (λ (pass : Pass S E F). IsPassOf cell pass × (mine pass ≡ [])) front last
        (subst (All (λ (pass : Pass S E F). IsPassOf cell pass × (mine pass ≡ []))) front_is all_told_nothing))

    pub rest_told_nothing : All (λ (pass : Pass S E F). IsPassOf cell pass × (mine pass ≡ [])) rest
    rest_told_nothing = all_front (λ (pass : Pass S E F). IsPassOf cell pass × (mine pass ≡ [])) rest other all_before

    pub other_told_nothing : IsPassOf cell other × (mine other ≡ [])
    other_told_nothing = all_last (λ (pass : Pass S E F). IsPassOf cell pass × (mine pass ≡ [])) rest other all_before

    pub last_is : IsPassOf cell last
    last_is =
        (all_last (λ (pass : Pass S E F). IsPassOf cell pass × (mine pass ≡ [])) front last
        (subst (All (λ (pass : Pass S E F). IsPassOf cell pass × (mine pass ≡ []))) front_is all_told_nothing)).0

  -- The first one, and the rest, where the list was turned.
  module _ (rest : List (Pass S E F)) (first : Pass S E F) (turned : reverse passes ≡ rest ++ first ∷ []) where
    pub first_is : IsPassOf cell first × (number first ≡ 0) × (mine first ≡ [])
    first_is =
        let is = was_first passes rest first turned in
        let new = fresh 0 first (ap (λ (l : List (Pass S E F)). get_elem? l 0) is) in
        (new.0, new.1.0, new.1.2)

    pub rest_are : All (IsPassOf cell) rest
    rest_are =
        All-weaker (λ (pass : Pass S E F). IsPassOf cell pass × (mine pass ≡ [])) (IsPassOf cell) (λ pass both. both.0) rest
        (all_front (λ (pass : Pass S E F). IsPassOf cell pass × (mine pass ≡ [])) rest first
        (subst (All (λ (pass : Pass S E F). IsPassOf cell pass × (mine pass ≡ []))) turned
        (all_turned (λ (pass : Pass S E F). IsPassOf cell pass × (mine pass ≡ [])) passes all_told_nothing)))

    pub rest_many : length rest + 1 ≡ length passes
    rest_many =
        let is = was_first passes rest first turned in
        let many = ap length is in
        let same = length-reverse rest in
        omega (arith, many, same)
