use Rattle.std.proofs.Common.{◌≡◌, false}
use Rattle.segment_pool.specs.Pools.{IsPassOf}
use Rattle.benches.proofs.ends.queue.Given as goal

abbrev pub invariant-loop-item : goal.invariant-loop-item
invariant-loop-item g l = IsPassOf l.pool l.pass × (l.queue.finished ≡ false)

abbrev pub invariant-loop-turn : goal.invariant-loop-turn
invariant-loop-turn g l = l.queue.finished ≡ false
