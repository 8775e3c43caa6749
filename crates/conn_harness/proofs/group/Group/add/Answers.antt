use Rattle.conn_harness.proofs.GroupLaws.{three_made, dealt_more}
use Rattle.conn_harness.proofs.group.Group.add.Goals as goal

pub returns-clause-dealt : goal.returns-clause-dealt
returns-clause-dealt g c =
    let made = three_made c.in-Ok.cell c.in-Ok.passes.items c.take_last-second.new.self.items c.take_last-first.new.self.items c.take_last-task.new.self.items
    c.take_last-task.result c.take_last-first.result c.take_last-second.result
    c.in-Ok.ensures.made.0 c.in-Ok.ensures.made.1 c.take_last-second.ensures.items c.take_last-first.ensures.items c.take_last-task.ensures.items in
    dealt_more c.args.self.now (record { cells = c.push.new.self; tasks = c.push-2.new.self; first = c.push-3.new.self; second = c.push-4.new.self }) c.in-Ok.cell c.take_last-task.result c.take_last-first.result c.take_last-second.result c.requires.dealt made
    c.in_ok-push.ensures.ok c.in_ok-push-2.ensures.ok c.in_ok-push-3.ensures.ok c.in_ok-push-4.ensures.ok

pub returns-clause-cells : goal.returns-clause-cells
returns-clause-cells g c = (c.in-Ok.cell, c.in_ok-push.ensures.ok, c.in-Ok.ensures.cell.0)
