-- Cells of one kind and their passes, as they are made. This is this project's own choice.
use Rattle.std.specs.Prelude.{◌≡◌, ℕ, List, [], ◌∷◌, ◌++◌, All}
use Rattle.turn_cell.specs.declared.cell.TurnCell.{TurnCell}
use Rattle.turn_cell.specs.declared.pass.Pass.{Pass}
use Rattle.turn_cell.specs.Passes.{IsPassOf, seen, opened_with}
use Rattle.turn_cell.specs.Closing.{IsFresh}
use Rattle.conn_parts.specs.Shares.{AreOwn, AreNew}
use Rattle.job_cells.specs.declared.group.Group.{Group}

module _ {S E F : Type 0} where
  -- A pass of this cell with this number, as it was made.
  abbrev pub IsMade : TurnCell S E F → ℕ → Pass S E F → Type 0
  IsMade cell n pass = IsPassOf cell pass × IsFresh n pass

  -- The passes are those of the loops at the cells, by their numbers, as they were made.
  pub record AreDealt (group : Group S E F) : Type 0 where
    pub first : AreOwn 1 group.cells.items group.first.items
    pub second : AreOwn 2 group.cells.items group.second.items
    pub unseen : All (λ (pass : Pass S E F). seen pass ≡ []) group.first.items
    pub new : AreNew group.first.items

  -- A cell was added that was made with this state, and this is the task's pass of it.
  pub record HasMore (state : S) (before after : List (TurnCell S E F)) (pass : Pass S E F) : Type 0 where
    pub cell : TurnCell S E F
    pub is : after ≡ before ++ cell ∷ []
    pub opened : opened_with cell ≡ state
    pub made : IsMade cell 0 pass
