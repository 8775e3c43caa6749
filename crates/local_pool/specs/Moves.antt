-- What a pass did in a call that takes several turns at the global pool. Passes, their numbers and their entries are this project's own choice.
use Rattle.std.specs.Prelude.{◌≡◌, ℕ, List, ◌++◌, replicate}
use Rattle.turn_cell.specs.History.{StartsWith, by}
use Rattle.segment_pool.specs.declared.pool.Pool.{Pool}
use Rattle.segment_pool.specs.declared.pass.PoolPass.{PoolPass}
use Rattle.segment_pool.specs.declared.stock.Dealing.{Dealing}
use Rattle.segment_pool.specs.declared.stock.Dealing.TheVariants.{Claimed}
use Rattle.segment_pool.specs.Counting.{free_in}
use Rattle.segment_pool.specs.Passes.{number, seen, mine}
use Rattle.segment_pool.specs.Pools.{total_of}

-- it is the same pass, which has seen what it had seen, and whose turns since made these entries
pub record HasDone (entries : List Dealing) (before after : PoolPass) : Type 0 where
  pub same_number : number after ≡ number before
  pub later : StartsWith (seen after) (seen before)
  pub then_mine : mine after ≡ mine before ++ entries

-- At one of the turns between, no segment of the pool was free. By then the pass had claimed so many since
pub record FoundNone (pool : Pool) (count : ℕ) (before after : PoolPass) : Type 0 where
  -- the history at that turn
  pub history : List (ℕ × Dealing)
  pub later : StartsWith history (seen before)
  pub earlier : StartsWith (seen after) history
  pub claimed : by (number before) history ≡ mine before ++ replicate count Claimed
  pub none_free : free_in (total_of pool) history ≡ 0
