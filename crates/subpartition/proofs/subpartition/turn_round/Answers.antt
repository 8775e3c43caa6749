use Rattle.std.proofs.Common.{◌<◌, length, arith}
use Rattle.subpartition.proofs.Fronts.{turned_on}
use Rattle.subpartition.proofs.subpartition.turn_round.Goals as goal

pub loop-moved-preserved : goal.loop-moved-preserved
loop-moved-preserved c =
    let xs = c.args.queue.now.items in
    let low : c.loop-moved._moved < length xs = omega (arith, c.loop-moved-test.true, c.requires.count) in
    record { turned = turned_on xs c.loop-moved._moved c.args.queue.now.capacity c.loop-moved.queue c.pop_front.new.self c.push.new.queue c.in-Some.item low c.loop-moved.invariant.turned c.pop_front.ensures.items c.in-Some.ensures.value c.push.ensures }
