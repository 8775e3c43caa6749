-- What two passes of a cell tell together once both are at rest. Cells and passes are this project's own choice.
use Rattle.std.specs.Prelude.{◌≡◌, ℕ, ◌<◌, List, length, slice_get, Some}
use Rattle.turn_cell.specs.declared.cell.TurnCell.{TurnCell}
use Rattle.turn_cell.specs.declared.pass.Pass.{Pass}
use Rattle.turn_cell.specs.History.{StartsWith, by}
use Rattle.turn_cell.specs.Passes.{IsPassOf, number, seen, mine}
use Rattle.conn_parts.specs.Shares.{mine_at, seen_at}
use Rattle.record_writer.specs.Writers.{place_of}

-- Some state stands for this history.
abbrev pub StandsForSome : {S E : Type 0} → (S → List (ℕ × E) → Type 0) → List (ℕ × E) → Type 0
StandsForSome {S} stands history = (state : S) × stands state history

module _ {S E F : Type 0} (stands : S → List (ℕ × E) → Type 0) where
  -- A history for which the cell's state stood begins with what both had seen, and has their entries and no others of theirs.
  pub record HaveSettled (a b : Pass S E F) : Type 0 where
    pub state : S
    pub history : List (ℕ × E)
    pub stands_for : stands state history
    pub later_a : StartsWith history (seen a)
    pub later_b : StartsWith history (seen b)
    pub of_a : by (number a) history ≡ mine a
    pub of_b : by (number b) history ≡ mine b

-- Each pass of a list has seen what it had seen, and has the entries that it had.
pub record GoOn {S E F : Type 0} (before after : List (Pass S E F)) : Type 0 where
  pub seen_more : (k : ℕ) → StartsWith (seen_at k after) (seen_at k before)
  pub same : (k : ℕ) → mine_at k after ≡ mine_at k before

module _ {S E F : Type 0} where
  -- It is the task's pass of the cell at this place.
  abbrev pub IsTaskAt : List (TurnCell S E F) → ℕ → Pass S E F → Type 0
  IsTaskAt cells place pass = (cell : TurnCell S E F) × (slice_get cells place ≡ Some cell) × IsPassOf cell pass × (number pass ≡ 0)

  -- These are the task's passes of the cells at the places from the first on, so many apart.
  abbrev pub AreTaskAt : List (TurnCell S E F) → ℕ → ℕ → List (Pass S E F) → Type 0
  AreTaskAt cells first stride passes = (c : ℕ) (pass : Pass S E F) → slice_get passes c ≡ Some pass → IsTaskAt cells (place_of first stride c) pass

-- A history for which a state stood has the entries of a task and of a loop, and begins with what both had seen.
pub record SettledAt {S E : Type 0} (stands : S → List (ℕ × E) → Type 0) (own : List E) (own_seen : List (ℕ × E)) (loop : List E) (loop_seen : List (ℕ × E)) : Type 0 where
  pub state : S
  pub history : List (ℕ × E)
  pub stands_for : stands state history
  pub of_task : by 0 history ≡ own
  pub later_task : StartsWith history own_seen
  pub of_loop : by 1 history ≡ loop
  pub later_loop : StartsWith history loop_seen

-- Each channel of a task is settled with the loop that has a pass of each cell.
abbrev pub AllSettled : {S E F : Type 0} → (S → List (ℕ × E) → Type 0) → ℕ → ℕ → List (Pass S E F) → List (Pass S E F) → Type 0
AllSettled stands first stride own loops = (c : ℕ) → c < length own →
    SettledAt stands (mine_at c own) (seen_at c own) (mine_at (place_of first stride c) loops) (seen_at (place_of first stride c) loops)
