use Rattle.std.proofs.Common.{length}
use Rattle.conn_harness.specs.Ends.{AreNewTasks}
use Rattle.conn_harness.proofs.workers.lanes_of.Given as goal

abbrev pub invariant-passes : goal.invariant-passes
invariant-passes l = AreNewTasks l.cells l.passes.items

abbrev pub decreases-passes : goal.decreases-passes
decreases-passes l = length l.passes.items
