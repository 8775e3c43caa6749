use Rattle.turn_cell.specs.Passes.{IsPassOf}
use Rattle.conn_parts.specs.Shares.{AreOf}
use Rattle.conn_harness.proofs.source.put_all.Given as goal

abbrev pub invariant-loop-round : goal.invariant-loop-round
invariant-loop-round g l = AreOf l.pools l.passes.items × IsPassOf l.stop l.stop_pass
