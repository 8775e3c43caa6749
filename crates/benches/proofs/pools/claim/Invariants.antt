use Rattle.segment_pool.specs.Pools.{IsPassOf}
use Rattle.benches.proofs.pools.claim.Given as goal

abbrev pub invariant-loop-turn : goal.invariant-loop-turn
invariant-loop-turn g l = IsPassOf l.pool l.pass
