-- What contracts say of a cell and its passes. A pass keeps two lists, which exist in proofs alone.
use Rattle.std.specs.Prelude.{◌≡◌, ℕ, true, List, [], ◌∷◌, ◌++◌, Some, None, Option}
use Rattle.turn_cell.specs.declared.cell.TurnCell.{TurnCell}
use Rattle.turn_cell.specs.declared.pass.Pass.{Pass}
use Rattle.turn_cell.specs.declared.rule.Stage.TheVariants.{Away}
use Rattle.turn_cell.specs.History.{by}
use Rattle.turn_cell.specs.Rule.{is_turn, Counts}

module _ {S E F : Type 0} where
  -- the state with which the cell was made
  abbrev pub opened_with : TurnCell S E F → S
  opened_with cell = cell.table.shared.key.state.value

  -- how many passes the cell has
  abbrev pub passes_of : TurnCell S E F → ℕ
  passes_of cell = cell.table.shared.key.passes

  -- its place in the list that was made with the cell
  abbrev pub number : Pass S E F → ℕ
  number pass = pass.seat.me.0.number

  -- the history as it was when the pass saw it last
  abbrev pub seen : Pass S E F → List (ℕ × E)
  seen pass = pass.seat.me.0.seen

  -- its own entries, in order
  abbrev pub mine : Pass S E F → List E
  mine pass = pass.seat.me.0.mine

  -- what it saw at each of its looks, in order: the whole history as it stood at that moment. Each turn begins with a look
  abbrev pub sights : Pass S E F → List (List (ℕ × E))
  sights pass = pass.seat.me.0.sights

  -- from before to after it looked once, and has seen just this history since
  abbrev pub HasSighted : Pass S E F → Pass S E F → Type 0
  HasSighted before after = sights after ≡ sights before ++ seen after ∷ []

  -- it is a live pass of this cell, which holds these slots
  abbrev pub IsOf : TurnCell S E F → Pass S E F → List (ℕ × Option S) → Type 0
  IsOf cell pass held = (pass.seat.table_id ≡ cell.table.shared.table_id) × (pass.seat.me.1 ≡ held) × (pass.seat.me.0.live ≡ true) × (pass.seat.me.0.gathered ≡ []) × (pass.seat.me.0.about ≡ Some cell.table.shared.key) × (by (number pass) (seen pass) ≡ mine pass)

  -- It is a pass of this cell, and has no turn. What it has seen has its own entries under its number, and no others
  abbrev pub IsPassOf : TurnCell S E F → Pass S E F → Type 0
  IsPassOf cell pass = IsOf cell pass [] × (pass.seat.me.0.stage ≡ Away) × Counts pass.entries (seen pass)

  -- it is a pass of this cell in its turn, and has given out the state
  abbrev pub IsTurnOf : TurnCell S E F → Pass S E F → Type 0
  IsTurnOf cell pass = IsOf cell pass ((0, None) ∷ []) × (is_turn pass.seat.me.0.stage ≡ true) × Counts pass.entries (seen pass)

  -- the pass has the number and the entries that it had
  abbrev pub IsSamePass : Pass S E F → Pass S E F → Type 0
  IsSamePass before after = (number after ≡ number before) × (mine after ≡ mine before)

  -- the turn ended with this entry
  abbrev pub HasEntered : E → Pass S E F → Pass S E F → Type 0
  HasEntered entry before after = (number after ≡ number before) × (seen after ≡ seen before ++ (number before, entry) ∷ []) × (mine after ≡ mine before ++ entry ∷ []) × (sights after ≡ sights before)

  -- the turn ended with no entry
  abbrev pub HasRested : Pass S E F → Pass S E F → Type 0
  HasRested before after = IsSamePass before after × (seen after ≡ seen before) × (sights after ≡ sights before)

  module _ (stands : S → List (ℕ × E) → Type 0) (fixed : S → F) where
    -- the state stands for this history, and has the fixed part that it had when the cell was made
    abbrev pub IsStateOf : TurnCell S E F → List (ℕ × E) → S → Type 0
    IsStateOf cell history state = stands state history × (fixed state ≡ fixed (opened_with cell))
