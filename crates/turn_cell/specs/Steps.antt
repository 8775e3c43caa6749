-- What a pass is between the steps of one turn.
use Rattle.std.specs.Prelude.{◌≡◌, ℕ, ◌%◌, ◌^◌, true, List, [], ◌∷◌, Some}
use Rattle.turn_cell.specs.declared.cell.TurnCell.{TurnCell}
use Rattle.turn_cell.specs.declared.pass.Pass.{Pass}
use Rattle.turn_cell.specs.declared.rule.Past.{Past}
use Rattle.turn_cell.specs.declared.rule.Stage.TheVariants.{Away}
use Rattle.turn_cell.specs.History.{by, StartsWith}
use Rattle.turn_cell.specs.Rule.{Has, past, is_turn, is_waiting, ticket_of, Counts}
use Rattle.turn_cell.specs.Passes.{IsOf, IsSamePass, IsStateOf, HasSighted, number, seen, mine, sights}

module _ {S E F : Type 0} where
  -- its ticket, as the words of the cell count
  abbrev pub ticket : Pass S E F → ℕ
  ticket pass = ticket_of pass.seat.me.0.stage % 2 ^ 64

  -- it is a pass of this cell that waits with a ticket
  abbrev pub IsWaiting : TurnCell S E F → Pass S E F → Type 0
  IsWaiting cell pass = IsOf cell pass [] × (is_waiting pass.seat.me.0.stage ≡ true)

  -- it is a pass of this cell in its turn, and has this state in the slot
  abbrev pub HoldsState : TurnCell S E F → Pass S E F → S → Type 0
  HoldsState cell pass state = IsOf cell pass ((0, Some state) ∷ []) × (is_turn pass.seat.me.0.stage ≡ true)

  -- it has counted the history that it has seen
  abbrev pub IsCounted : Pass S E F → Type 0
  IsCounted pass = Counts pass.entries (seen pass)

  -- it has the number, the entries and the history that it had, and has not looked
  abbrev pub IsAsBefore : Pass S E F → Pass S E F → Type 0
  IsAsBefore before after = IsSamePass before after × (seen after ≡ seen before) × (sights after ≡ sights before)

  -- it is a pass of this cell outside a turn, whatever passes it has taken in
  abbrev pub IsIdle : TurnCell S E F → Pass S E F → Type 0
  IsIdle cell pass = (pass.seat.table_id ≡ cell.table.shared.table_id) × (pass.seat.me.1 ≡ []) × (pass.seat.me.0.live ≡ true) × (pass.seat.me.0.about ≡ Some cell.table.shared.key) × (pass.seat.me.0.stage ≡ Away)

  -- the passes that it has taken in
  abbrev pub gathered : Pass S E F → List (Past E)
  gathered pass = pass.seat.me.0.gathered

  -- what is left of a pass that was taken in
  abbrev pub past_of : Pass S E F → Past E
  past_of pass = past pass.seat.me.0

  -- the pass and all that it has taken in know this history, which begins with what they had seen
  abbrev pub HasLearnt : Pass S E F → Pass S E F → Type 0
  HasLearnt before after = StartsWith (seen after) (seen before) × (by (number after) (seen after) ≡ mine after)
      × ((p : Past E) → Has p (gathered before) → StartsWith (seen after) p.seen × (by p.number (seen after) ≡ p.mine))

  module _ (stands : S → List (ℕ × E) → Type 0) (fixed : S → F) where
    -- the turn has come, with a state of the history now
    abbrev pub FoundTurn : TurnCell S E F → Pass S E F → Pass S E F → Type 0
    FoundTurn cell before after = (state : S) × HoldsState cell after state × IsStateOf stands fixed cell (seen after) state × StartsWith (seen after) (seen before) × IsSamePass before after × HasSighted before after
