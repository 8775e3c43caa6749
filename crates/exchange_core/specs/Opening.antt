-- What there is while a connection is opened. It serves the connection's own functions; no public contract
-- cites it.
use Rattle.std.specs.Prelude.{◌≡◌, ℕ, ◌≤◌, List, ◌∷◌, [], ◌++◌, length, map, replicate}
use Rattle.std.specs.List.{All}
use Rattle.segment_pool.specs.declared.pool.Pool.{Pool}
use Rattle.segment_pool.specs.declared.pass.PoolPass.{PoolPass}
use Rattle.segment_pool.specs.Passes.{out}
use Rattle.segment_pool.specs.Pools.{IsPassOf, size_of, limit_of as granted_to}
use Rattle.local_pool.specs.declared.local.LocalPool.{LocalPool}
use Rattle.local_pool.specs.Shares.{share_of}
use Rattle.local_pool.specs.Locals.{IsLocalOf, need_of, lent_of, limit_of}
use Rattle.exchange_world.specs.Lanes.{new_lane}
use Rattle.exchange_world.specs.Worlds.{pool_wants, partition_want, gate_want}
use Rattle.exchange_core.specs.declared.lane.Lane.{Lane}
use Rattle.exchange_core.specs.Exchanges.{IsLaneOf, world_lane}

-- The limit of the pool of each channel, and that of the gate's pool.
abbrev pub lane_share : ℕ → ℕ → ℕ
lane_share channels total = share_of (pool_wants channels) total partition_want

abbrev pub gate_share : ℕ → ℕ → ℕ
gate_share channels total = share_of (pool_wants channels) total (gate_want channels)

-- All the limits, that of the gate last.
abbrev pub shares : ℕ → ℕ → List ℕ
shares channels total = replicate channels (lane_share channels total) ++ gate_share channels total ∷ []

-- A pass of this pool that has nothing out, and may have so many out.
pub record IsPoolReady (pool : Pool) (limit : ℕ) (pass : PoolPass) : Type 0 where
  pub of_pool : IsPassOf pool pass
  pub none_out : out pass ≡ 0
  pub granted : limit ≤ granted_to pool pass

-- A local pool of this pool that has lent so many.
pub record IsPoolOf (pool : Pool) (need limit lent : ℕ) (local : LocalPool) : Type 0 where
  pub of_pool : IsLocalOf pool local
  pub need_is : need_of local ≡ need
  pub limit_is : limit_of local ≡ limit
  pub lent_is : lent_of local ≡ lent

-- Channels of this pool on which nothing was put.
pub record AreNewLanes (pool : Pool) (limit : ℕ) (lanes : List Lane) : Type 0 where
  pub each : All (IsLaneOf pool limit) lanes
  pub new : map world_lane lanes ≡ replicate (length lanes) (new_lane (size_of pool))
