use Rattle.std.proofs.Common.{arith}
use Rattle.job_cells.proofs.GroupLaws.{dealt_more, made_at}
use Rattle.job_cells.proofs.group.Group.add.Goals as goal

pub returns-clause-dealt : goal.returns-clause-dealt
returns-clause-dealt g c =
    let cell = c.in-Ok.cell in
    let three = c.in-Ok.ensures.made.1 in let l2 = c.deal-second.ensures.many in let l1 = c.deal-first.ensures.many in
    dealt_more c.args.self.now (record { cells = c.push.new.self; first = c.push-2.new.self; second = c.push-3.new.self }) cell c.deal-first.result c.deal-second.result c.requires.dealt
    (made_at cell _ 1 c.deal-first.result c.deal-first.ensures.last (omega arith)) (made_at cell _ 2 c.deal-second.result c.deal-second.ensures.last (omega arith))
    c.in_ok-push.ensures.ok c.in_ok-push-2.ensures.ok c.in_ok-push-3.ensures.ok

pub returns-clause-more : goal.returns-clause-more
returns-clause-more g c =
    let cell = c.in-Ok.cell in
    let three = c.in-Ok.ensures.made.1 in let l2 = c.deal-second.ensures.many in let l1 = c.deal-first.ensures.many in let l0 = c.deal-task.ensures.many in
    record {
      cell = cell;
      is = c.in_ok-push.ensures.ok;
      opened = c.in-Ok.ensures.cell.0;
      made = made_at cell _ 0 c.deal-task.result c.deal-task.ensures.last (omega arith);
    }
