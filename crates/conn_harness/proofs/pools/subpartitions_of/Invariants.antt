use Rattle.std.proofs.Common.{◌≡◌}
use Rattle.conn_harness.specs.Groups.{AreMade}
use Rattle.conn_harness.proofs.pools.subpartitions_of.Given as goal

abbrev pub invariant-loop-channel : goal.invariant-loop-channel
invariant-loop-channel l = AreMade (λ queue. queue.size ≡ l.size) l._channel l.group
