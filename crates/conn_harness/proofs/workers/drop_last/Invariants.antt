use Rattle.conn_harness.specs.Ends.{AreNewTasks}
use Rattle.conn_harness.proofs.workers.drop_last.Given as goal

abbrev pub invariant-loop-pass : goal.invariant-loop-pass
invariant-loop-pass l = AreNewTasks l.cells l.passes.items
