-- Cells and the passes that a loop has of them. This is this project's own choice.
use Rattle.std.specs.Prelude.{◌≡◌, ◌≢◌, ℕ, List, [], ◌++◌, length, slice_get, Some, All, map}
use Rattle.std.specs.Option.{option_map_or}
use Rattle.turn_cell.specs.declared.cell.TurnCell.{TurnCell}
use Rattle.turn_cell.specs.declared.pass.Pass.{Pass}
use Rattle.turn_cell.specs.Passes.{IsPassOf, number, seen, mine, opened_with}
use Rattle.local_pool.specs.declared.held.HeldPool.{HeldPool}
use Rattle.local_pool.specs.Helds.{pool_of}
use Rattle.segment_pool.specs.Pools.{size_of}

module _ {S E F : Type 0} where
  -- These are passes of the cells, one of each.
  pub record AreOf (cells : List (TurnCell S E F)) (passes : List (Pass S E F)) : Type 0 where
    pub many : length passes ≡ length cells
    pub each : (k : ℕ) (cell : TurnCell S E F) (pass : Pass S E F) → slice_get cells k ≡ Some cell → slice_get passes k ≡ Some pass → IsPassOf cell pass

  -- And each has this number.
  pub record AreOwn (n : ℕ) (cells : List (TurnCell S E F)) (passes : List (Pass S E F)) : Type 0 where
    pub of_cells : AreOf cells passes
    pub numbered : All (λ (pass : Pass S E F). number pass ≡ n) passes

  -- Their numbers, in order.
  abbrev pub numbers_of : List (Pass S E F) → List ℕ
  numbers_of passes = map (λ (pass : Pass S E F). number pass) passes

  -- What the pass at a place has seen, and its own entries. Past the end there are none.
  abbrev pub seen_at : ℕ → List (Pass S E F) → List (ℕ × E)
  seen_at k passes = option_map_or (λ (pass : Pass S E F). seen pass) (slice_get passes k) []

  abbrev pub mine_at : ℕ → List (Pass S E F) → List E
  mine_at k passes = option_map_or (λ (pass : Pass S E F). mine pass) (slice_get passes k) []

  -- The pass at a place made these entries, and the others none.
  pub record GrewAt (k : ℕ) (entries : List E) (before after : List (Pass S E F)) : Type 0 where
    pub here : mine_at k after ≡ mine_at k before ++ entries
    pub others : (j : ℕ) → j ≢ k → mine_at j after ≡ mine_at j before

  -- They have made no entry.
  abbrev pub AreNew : List (Pass S E F) → Type 0
  AreNew passes = All (λ (pass : Pass S E F). mine pass ≡ []) passes

-- Each pool has segments of this size.
abbrev pub HavePoolSize : {E F : Type 0} → ℕ → List (TurnCell HeldPool E F) → Type 0
HavePoolSize {E} {F} size cells = All (λ (cell : TurnCell HeldPool E F). size_of (pool_of (opened_with cell)) ≡ size) cells
