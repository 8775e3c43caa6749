use Rattle.conn_harness.proofs.TaskLaws.{tasks_rest}
use Rattle.conn_harness.proofs.workers.drop_last.Goals as goal

pub loop-pass-preserved : goal.loop-pass-preserved
loop-pass-preserved c = tasks_rest c.args.cells.now c.loop-pass.passes.items c.pop.new.self.items c.in-Some.dropped c.in-Some.ensures.items c.loop-pass.invariant
