-- The two passes of a new cell.
use Rattle.std.proofs.Common.{◌≡◌, List, [], ◌∷◌, ◌++◌, length, ap, ◌∙◌, arith, length-append}
use Rattle.std.proofs.lemmas.List.{nil_from_length}
use lib.ListN.{get_elem?}
use Rattle.turn_cell.specs.declared.cell.TurnCell.{TurnCell}
use Rattle.turn_cell.specs.declared.pass.Pass.{Pass}
use Rattle.turn_cell.specs.Passes.{IsPassOf}
use Rattle.turn_cell.specs.Closing.{IsFresh, AreFresh}

module _ {S E F : Type 0} (cell : TurnCell S E F) where
  -- they were taken from the end, the second one first
  pub two_made : (all one none : List (Pass S E F)) (a b : Pass S E F) → AreFresh cell all → all ≡ one ++ b ∷ [] → one ≡ none ++ a ∷ [] → length all ≡ 2 →
      (IsPassOf cell a × IsFresh 0 a) × (IsPassOf cell b × IsFresh 1 b)
  two_made all one none a b fresh first second two =
      let more = ap length first in let added = length-append one (b ∷ []) in let less = ap length second in let other = length-append none (a ∷ []) in
      let empty = nil_from_length none (omega arith) in
      let both = first ∙ ap (λ ps. ps ++ b ∷ []) (second ∙ ap (λ ps. ps ++ a ∷ []) empty) in
      (fresh 0 a (ap (λ ps. get_elem? ps 0) both), fresh 1 b (ap (λ ps. get_elem? ps 1) both))
