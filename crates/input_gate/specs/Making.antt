-- The channels of a gate when it is made. It serves private functions alone, and is this project's own choice.
use Rattle.std.specs.Prelude.{◌≡◌, ⊤, false, List, [], ◌∷◌, None}
use Rattle.turn_cell.specs.Passes.{IsPassOf, number, seen, mine}
use Rattle.input_gate.specs.declared.lane.Lane.{Lane}
use Rattle.input_gate.specs.Turning.{InputCell, InputPass}

-- The lane of this cell, with this pass, of which nothing was polled.
pub record IsFreshLane (cell : InputCell) (pass : InputPass) (lane : Lane) : Type 0 where
  pub cell_is : lane.cell.now ≡ cell
  pub pass_is : lane.pass ≡ pass
  pub reader_is : lane.reader ≡ []
  pub ready_is : lane.ready ≡ None
  pub spare_is : lane.spare ≡ None
  pub barriers_are : lane.barriers ≡ 0
  pub blocked_is : lane.blocked ≡ false
  pub ended_is : lane.ended ≡ false
  pub clear_is : lane.clear ≡ false

-- One of each cell, with its pass.
abbrev pub AreFreshLanes : List InputCell → List InputPass → List Lane → Type 0
AreFreshLanes [] [] [] = ⊤
AreFreshLanes (cell ∷ cells) (pass ∷ passes) (lane ∷ lanes) = IsFreshLane cell pass lane × AreFreshLanes cells passes lanes
AreFreshLanes cells passes lanes = ⊥

-- The first pass of this cell, which has seen nothing.
pub record IsFirstPass (cell : InputCell) (pass : InputPass) : Type 0 where
  pub of_cell : IsPassOf cell pass
  pub first : number pass ≡ 0
  pub unseen : seen pass ≡ []
  pub no_entry : mine pass ≡ []

-- Two cells, each with its first pass.
abbrev pub AreTwo : List InputCell → List InputPass → Type 0
AreTwo (one ∷ two ∷ []) (first ∷ second ∷ []) = IsFirstPass one first × IsFirstPass two second
AreTwo cells passes = ⊥
