-- Lists of passes: as they are made with a cell, and as they are handed in when it is closed.
use Rattle.std.specs.Prelude.{◌≡◌, ℕ, ◌≤◌, List, [], length, Option}
use Rattle.std.specs.List.{sum_by}
use mathlib.Core.Option.{some}
use lib.ListN.{get_elem?}
use Rattle.turn_cell.specs.declared.cell.TurnCell.{TurnCell}
use Rattle.turn_cell.specs.declared.pass.Pass.{Pass}
use Rattle.turn_cell.specs.History.{by, StartsWith, told, seen_by}
use Rattle.turn_cell.specs.Passes.{IsPassOf, IsStateOf, number, seen, mine, sights, passes_of}

module _ {S E F : Type 0} where
  -- it has this number, has seen nothing, has no entries, and has not looked
  abbrev pub IsFresh : ℕ → Pass S E F → Type 0
  IsFresh k pass = (number pass ≡ k) × (seen pass ≡ []) × (mine pass ≡ []) × (sights pass ≡ [])

  -- they are passes of this cell with the numbers from 0 on, and fresh
  abbrev pub AreFresh : TurnCell S E F → List (Pass S E F) → Type 0
  AreFresh cell ps = (k : ℕ) (pass : Pass S E F) → get_elem? ps k ≡ some pass → IsPassOf cell pass × IsFresh k pass

  -- they are all passes of this cell, in the order of their numbers
  abbrev pub AreAll : TurnCell S E F → List (Pass S E F) → Type 0
  AreAll cell ps = (length ps ≡ passes_of cell) × ((k : ℕ) (pass : Pass S E F) → get_elem? ps k ≡ some pass → IsPassOf cell pass × (number pass ≡ k))

  -- the history is a whole one of these passes, in the order of their numbers
  pub record IsHistoryOf (ps : List (Pass S E F)) (history : List (ℕ × E)) : Type 0 where
    -- it begins with what each has seen
    pub begins : (k : ℕ) (pass : Pass S E F) → get_elem? ps k ≡ some pass → StartsWith history (seen pass)
    -- the entries of each are those with its number, in order
    pub own : (k : ℕ) (pass : Pass S E F) → get_elem? ps k ≡ some pass → by k history ≡ mine pass
    -- there are no others
    pub no_other : (k : ℕ) → length ps ≤ k → by k history ≡ []

  module _ (stands : S → List (ℕ × E) → Type 0) (fixed : S → F) where
    -- The state stands for the whole history of these passes. However entries are weighed, the history weighs what the passes' own entries weigh together
    pub record IsWhole (cell : TurnCell S E F) (ps : List (Pass S E F)) (state : S) : Type 0 where
      pub history : List (ℕ × E)
      pub stands_for : IsStateOf stands fixed cell history state
      pub whole : IsHistoryOf ps history
      -- entries and looks stand in one order, and each look saw all entries before it
      pub moments : List (ℕ × Option E)
      pub tells : told moments ≡ history
      pub saw : (k : ℕ) (pass : Pass S E F) → get_elem? ps k ≡ some pass → seen_by k moments ≡ sights pass
      -- this follows from own and no_other, and spares each caller the proof
      pub weighs : (weight : E → ℕ) → sum_by (λ e. weight e.1) history ≡ sum_by (λ (pass : Pass S E F). sum_by weight (mine pass)) ps
