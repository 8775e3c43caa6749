-- Cells of one kind and their passes, as this program makes them. This is this project's own choice.
use Rattle.std.specs.Prelude.{◌≡◌, ℕ, List, [], ◌∷◌, ◌++◌, length}
use Rattle.std.specs.List.{All}
use Rattle.turn_cell.specs.declared.cell.TurnCell.{TurnCell}
use Rattle.turn_cell.specs.Passes.{opened_with}
use Rattle.segment_pool.specs.declared.pool.Pool.{Pool}
use Rattle.segment_pool.specs.declared.pass.PoolPass.{PoolPass}
use Rattle.segment_pool.specs.Passes.{out}
use Rattle.segment_pool.specs.Pools.{IsPassOf}
use Rattle.conn_parts.specs.Shares.{AreOwn, AreNew}
use Rattle.conn_harness.specs.declared.group.Group.{Group}

-- A pass of this pool that has nothing out.
abbrev pub IsPassReady : Pool → PoolPass → Type 0
IsPassReady pool pass = IsPassOf pool pass × (out pass ≡ 0)

module _ {S E F : Type 0} where
  -- The passes are those of the cells, by their numbers, and have made no entry.
  pub record AreDealt (group : Group S E F) : Type 0 where
    pub tasks : AreOwn 0 group.cells.items group.tasks.items
    pub first : AreOwn 1 group.cells.items group.first.items
    pub second : AreOwn 2 group.cells.items group.second.items
    pub new : AreNew group.tasks.items

  -- A cell was added that was made with this state.
  abbrev pub HasMore : S → List (TurnCell S E F) → List (TurnCell S E F) → Type 0
  HasMore state before after = (cell : TurnCell S E F) × (after ≡ before ++ cell ∷ []) × (opened_with cell ≡ state)

  -- They are so many, and what holds of a state holds of each with which a cell was made.
  pub record AreMade (Holds : S → Type 0) (many : ℕ) (group : Group S E F) : Type 0 where
    pub dealt : AreDealt group
    pub count : length group.cells.items ≡ many
    pub states : All (λ (cell : TurnCell S E F). Holds (opened_with cell)) group.cells.items
