use Rattle.std.proofs.Common.{◌≡◌}
use Rattle.conn_harness.specs.Ids.{ids}
use Rattle.conn_harness.proofs.ids.ids_of.Given as goal

abbrev pub invariant-loop-from : goal.invariant-loop-from
invariant-loop-from l = l.found.items ≡ ids l.from
