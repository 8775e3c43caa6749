-- What the source and the sink of this program are given. This is this project's own choice.
use Rattle.std.specs.Prelude.{◌≡◌, ℕ, ◌<◌, ◌≤◌, List, [], length, slice_get, Some}
use Rattle.turn_cell.specs.declared.cell.TurnCell.{TurnCell}
use Rattle.turn_cell.specs.declared.pass.Pass.{Pass}
use Rattle.turn_cell.specs.Passes.{IsPassOf, number, mine}
use Rattle.conn_parts.specs.Shares.{AreOf, HavePoolSize}
use Rattle.conn_harness.specs.declared.source.Source.{Source}
use Rattle.conn_harness.specs.declared.sink.Sink.{Sink}
use Rattle.conn_harness.specs.declared.carrying.Putting.{Putting}
use Rattle.conn_harness.specs.declared.carrying.Putting.TheVariants.{Puts, HasPut}

-- A source has passes of the pools and of the stop cell.
pub record MayPut (source : Source) : Type 0 where
  pub pools : AreOf source.pools.now source.passes.items
  pub stop : IsPassOf source.stop.now source.stop_pass

abbrev pub MayPutOr : Putting → Type 0
MayPutOr (Puts source) = MayPut source
MayPutOr (HasPut n) = Unit {0}

-- A sink likewise, and there is a pool.
pub record MayTake (sink : Sink) : Type 0 where
  pub pools : AreOf sink.pools.now sink.passes.items
  pub sizes : HavePoolSize sink.size sink.pools.now
  pub some : 0 < length sink.pools.now
  pub stop : IsPassOf sink.stop.now sink.stop_pass

module _ {S E F : Type 0} where
  -- Passes of the first cells, with the number of a task, which have made no entry.
  pub record AreNewTasks (cells : List (TurnCell S E F)) (passes : List (Pass S E F)) : Type 0 where
    pub few : length passes ≤ length cells
    pub each : (k : ℕ) (cell : TurnCell S E F) (pass : Pass S E F) → slice_get cells k ≡ Some cell → slice_get passes k ≡ Some pass →
        IsPassOf cell pass × (number pass ≡ 0) × (mine pass ≡ [])
