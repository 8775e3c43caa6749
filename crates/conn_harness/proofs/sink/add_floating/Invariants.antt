use Rattle.conn_parts.specs.Shares.{AreOf}
use Rattle.conn_harness.proofs.sink.add_floating.Given as goal

abbrev pub invariant-loop-want : goal.invariant-loop-want
invariant-loop-want g l = AreOf l.pools l.passes.items
