-- What a turn lends.
use Rattle.turn_cell.specs.declared.turn.Turn.{Turn}

module _ {S F E : Type 0} where
  -- the turn, with this state
  abbrev pub with_state : Turn S E F → S → Turn S E F
  with_state turn state = record turn { state = state }
