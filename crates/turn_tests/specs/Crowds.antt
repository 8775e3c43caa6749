-- Lists of passes that go out and come back.
use Rattle.std.specs.Prelude.{◌≡◌, ℕ, List, length}
use mathlib.Core.Option.{some}
use lib.ListN.{get_elem?}
use Rattle.turn_cell.specs.declared.cell.TurnCell.{TurnCell}
use Rattle.turn_cell.specs.declared.pass.Pass.{Pass}
use Rattle.turn_cell.specs.Passes.{IsPassOf, number}

module _ {S E F : Type 0} where
  abbrev pub ArePassesOf : TurnCell S E F → List (Pass S E F) → Type 0
  ArePassesOf cell ps = (k : ℕ) (pass : Pass S E F) → get_elem? ps k ≡ some pass → IsPassOf cell pass

  -- each is in its place
  abbrev pub AreBack : TurnCell S E F → List (Pass S E F) → List (Pass S E F) → Type 0
  AreBack cell before after = (length after ≡ length before) × ((k : ℕ) (p q : Pass S E F) → get_elem? before k ≡ some p → get_elem? after k ≡ some q → IsPassOf cell q × (number q ≡ number p))
