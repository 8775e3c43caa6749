use Rattle.std.proofs.Common.{◌≡◌, ◌-◌, ◌≤◌, length}
use Rattle.std.specs.List.{All}
use Rattle.segment_pool.specs.Pools.{size_of}
use Rattle.local_pool.specs.Helds.{pool_of}
use Rattle.conn_harness.specs.Groups.{AreMade, IsPassReady}
use Rattle.conn_harness.proofs.pools.partitions_of.Given as goal

abbrev pub invariant-loop-pass : goal.invariant-loop-pass
invariant-loop-pass g l = record {
  made : AreMade (λ held. size_of (pool_of held) ≡ size_of l.pool) (length l.fn.passes.items - length l.rest.items) l.group;
  few : length l.rest.items ≤ length l.fn.passes.items;
  ready : All (IsPassReady l.pool) l.rest.items;
}

abbrev pub decreases-loop-pass : goal.decreases-loop-pass
decreases-loop-pass g l = length l.rest.items
