use Rattle.std.proofs.Common.{◌≡◌, ◌<◌, length, sym, ◌∙◌, arith}
use Rattle.subpartition.specs.Queues.{is_mark}
use Rattle.subpartition.proofs.Fronts.{count_here, count_all, none_more, read_back}
use Rattle.subpartition.proofs.subpartition.behind_last_barrier.Goals as goal

pub returns-then-is_barrier-clause-count : goal.returns-then-is_barrier-clause-count
returns-then-is_barrier-clause-count c =
    let items = c.args.queue.now.items in
    let low : c.loop-i.i < length items = omega (arith, c.loop-i-test.true, c.len-len.ensures.len) in
    count_here is_mark items c.loop-i.i c.in-Some.item.now low c.loop-i.invariant.none (read_back items c.loop-i.i c.in-Some.item.now low c.in-Some.ensures) (sym c.if-is_barrier.ensures)

pub loop-i-preserved : goal.loop-i-preserved
loop-i-preserved c =
    let items = c.args.queue.now.items in
    let low : c.loop-i.i < length items = omega (arith, c.loop-i-test.true, c.len-len.ensures.len) in
    record { none = none_more is_mark items c.loop-i.i c.in-Some.item.now low c.loop-i.invariant.none (read_back items c.loop-i.i c.in-Some.item.now low c.in-Some.ensures) (sym c.if-is_barrier.ensures) }

pub returns-clause-count : goal.returns-clause-count
returns-clause-count c =
    let items = c.args.queue.now.items in
    c.len-len.ensures.len ∙ count_all is_mark items c.loop-i.i (omega (arith, c.loop-i-test.false, c.loop-i.auto.i-end, c.len-len.ensures.len)) c.loop-i.invariant.none
