-- The passes of a cell while they are made. The first pass counts them.
use Rattle.std.specs.Prelude.{◌≡◌, ℕ, List, length}
use mathlib.Core.Option.{some}
use lib.ListN.{get_elem?}
use Rattle.turn_cell.specs.declared.cell.TurnCell.{TurnCell}
use Rattle.turn_cell.specs.declared.pass.Pass.{Pass}
use Rattle.turn_cell.specs.Passes.{IsPassOf}
use Rattle.turn_cell.specs.Closing.{IsFresh, AreFresh}

module _ {S E F : Type 0} where
  -- it is the first pass, which made n of them
  abbrev pub IsFirst : TurnCell S E F → ℕ → Pass S E F → Type 0
  IsFirst cell n pass = IsPassOf cell pass × IsFresh 0 pass × (pass.seat.me.0.made ≡ n)

  -- n of them are made
  abbrev pub AreMade : TurnCell S E F → ℕ → List (Pass S E F) → Type 0
  AreMade cell n ps = AreFresh cell ps × (length ps ≡ n) × ((pass : Pass S E F) → get_elem? ps 0 ≡ some pass → IsFirst cell n pass)
