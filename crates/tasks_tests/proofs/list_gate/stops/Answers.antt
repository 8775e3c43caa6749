use Rattle.std.proofs.Common.{arith}
use Rattle.task_taking.proofs.Samples.{counted_more}
use Rattle.tasks_tests.proofs.list_gate.stops.Goals as goal

pub loop-item-preserved : goal.loop-item-preserved
loop-item-preserved c = record {
  counted = counted_more c.args.given.now c.loop-item.item-index c.args.channel c.loop-item.count c.weight-count.result c.item-item.result c.loop-item-test.true c.item-item.is c.loop-item.invariant.counted c.weight-count.ensures.is;
  few = let few = c.loop-item.invariant.few in let small = c.weight-count.ensures.small in omega (arith, few, small);
}
