use Rattle.std.proofs.Common.{◌≡◌}
use Rattle.segment_pool.specs.Pools.{size_of}
use Rattle.local_pool.specs.Locals.{IsLocalOf}
use Rattle.conn_harness.specs.Groups.{AreMade}
use Rattle.conn_harness.proofs.pools.gate_of.Given as goal

abbrev pub invariant-loop-channel : goal.invariant-loop-channel
invariant-loop-channel g l = record {
  local : IsLocalOf l.pool l.local;
  made : AreMade (λ input. input.size ≡ size_of l.pool) l._channel l.inputs;
}
