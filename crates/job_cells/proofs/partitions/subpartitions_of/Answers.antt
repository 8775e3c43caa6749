use Rattle.std.proofs.Common.{◌≡◌, arith, subst}
use Rattle.job_cells.specs.Ends.{AreSent}
use Rattle.job_cells.proofs.EndLaws.{sent_none, sent_more, sent_row}
use Rattle.job_cells.proofs.partitions.subpartitions_of.Goals as goal

pub loop-way-init : goal.loop-way-init
loop-way-init c =
    sent_none c.args.span.senders c.args.size (record { group = c.new.result; senders = c.in_ok-lists_of.field-0 }) c.new.ensures.dealt c.new.ensures.cells
    c.in_ok-lists_of.ensures.many c.in_ok-lists_of.ensures.empty

pub loop-task-preserved : goal.loop-task-preserved
loop-task-preserved c =
    sent_more c.args.span.senders c.loop-way._way c.loop-task.task c.args.size c.loop-task.ends c.add.new.self c.loop-task.invariant c.in_ok-add.ensures.dealt c.in_ok-add.ensures.way

pub loop-way-preserved : goal.loop-way-preserved
loop-way-preserved c =
    let n = c.args.span.senders in let way = c.loop-way._way in
    let all : c.loop-task.task ≡ n = omega arith in
    sent_row n way c.args.size c.loop-task.ends (subst (λ a. AreSent n way a c.args.size c.loop-task.ends) all c.loop-task.invariant)
