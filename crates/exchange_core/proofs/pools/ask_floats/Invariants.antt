use Rattle.std.proofs.Common.{◌≡◌, ℕ, ◌+◌, ◌≤◌}
use Rattle.local_pool.specs.Locals.{IsLocalOf, IsSameLocal, lent_of, limit_of}
use Rattle.input_channel.specs.Counts.{wants}
use Rattle.input_channel.specs.States.{ChannelState}
use Rattle.local_pool.specs.declared.local.LocalPool.{LocalPool}
use Rattle.segment_pool.specs.declared.pool.Pool.{Pool}
use Rattle.exchange_core.specs.Inlets.{floats}
use Rattle.exchange_core.proofs.Floats.{added}
use Rattle.exchange_core.proofs.pools.ask_floats.Given as goal

-- so many have come
pub record HasGot (pool : Pool) (before gate : LocalPool) (old inbox : ChannelState) : Type 0 where
  pub n : ℕ
  pub local : IsLocalOf pool gate
  pub same : IsSameLocal before gate
  pub lent : lent_of gate ≡ lent_of before + n
  pub inbox_is : inbox ≡ added n old
  pub few : n ≤ floats (limit_of before) (lent_of before) old

abbrev pub invariant-asks : goal.invariant-asks
invariant-asks g l = HasGot l.pool l.fn.gate l.gate l.fn.inbox l.inbox

abbrev pub decreases-asks : goal.decreases-asks
decreases-asks g l = wants l.inbox.room l.inbox.counts
