use Rattle.std.proofs.Common.{◌≡◌}
use Rattle.segment_pool.specs.Pools.{IsPassOf, size_of}
use Rattle.benches.proofs.ends.front.Given as goal

abbrev pub invariant-loop-buffer : goal.invariant-loop-buffer
invariant-loop-buffer g l = IsPassOf l.pool l.pass × (l.inbox.size ≡ size_of l.pool)
