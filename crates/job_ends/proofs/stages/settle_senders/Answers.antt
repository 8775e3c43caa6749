use Rattle.std.proofs.Common.{length, slice_index_or, ℕ, sym, ap, subst, arith}
use Rattle.std.proofs.lemmas.Option.{slice_get_within}
use Rattle.subpartition.specs.Standing as sending
use Rattle.job_ends.specs.Settling.{AllSettled}
use Rattle.job_ends.specs.Leaving.{SentAt, WithoutPartition, sent_in}
use Rattle.job_ends.proofs.Loops.{go_on_nothing, go_on_again}
use Rattle.job_ends.proofs.Rows.{at_lent, stood, lent_more, each_more, up_to_none, up_to_all}
use Rattle.job_ends.proofs.Leavings.{settled_back}
use Rattle.job_ends.proofs.stages.settle_senders.Goals as goal

pub loop-task-init : goal.loop-task-init
loop-task-init g c = record {
  takers = c.requires.takers;
  go_on = go_on_nothing c.args.takers.now.items;
  row = up_to_none WithoutPartition c.args.row.now.items;
  settled = λ a place low at. absurd (omega (arith, low));
}

pub settle_sender-requires-clause-sent : goal.settle_sender-requires-clause-sent
settle_sender-requires-clause-sent g c =
    let i = c.loop-task.invariant in
    let x = slice_index_or c.as_mut_slice.result.now c.loop-task.task c.index-as_mut_slice-task.result in
    let many = i.row.many in
    let all = ap length c.as_slice-tasks.ensures in
    let at = at_lent c.loop-task.row.items c.as_mut_slice.result.now c.loop-task.task c.index-as_mut_slice-task.result c.as_mut_slice.ensures.value (omega (arith, many, all)) c.index-as_mut_slice-task.is in
    subst (λ (n : ℕ). SentAt c.args.cells.now c.loop-task.task n x) (sym all)
    (c.requires.sent c.loop-task.task x (stood WithoutPartition c.loop-task.task c.args.row.now.items c.loop-task.row.items x i.row at))

pub loop-task-preserved : goal.loop-task-preserved
loop-task-preserved g c =
    let i = c.loop-task.invariant in
    let x = slice_index_or c.as_mut_slice.result.now c.loop-task.task c.index-as_mut_slice-task.result in
    let many = i.row.many in
    let all = ap length c.as_slice-tasks.ensures in
    let at = at_lent c.loop-task.row.items c.as_mut_slice.result.now c.loop-task.task c.index-as_mut_slice-task.result c.as_mut_slice.ensures.value (omega (arith, many, all)) c.index-as_mut_slice-task.is in
    let before = stood WithoutPartition c.loop-task.task c.args.row.now.items c.loop-task.row.items x i.row at in
    record {
      takers = c.settle_sender.ensures.takers;
      go_on = go_on_again c.args.takers.now.items c.loop-task.takers.items c.settle_sender.new.takers.items i.go_on c.settle_sender.ensures.go_on;
      row = lent_more WithoutPartition c.loop-task.task c.args.row.now.items c.loop-task.row.items c.as_mut_slice.result.now x c.settle_sender.new.place i.row c.as_mut_slice.ensures.value at c.settle_sender.ensures.place;
      settled = each_more (λ (a : ℕ) (place : _). AllSettled sending.QueueStandsFor a (length c.args.row.now.items) (sent_in place) c.args.takers.now.items) c.loop-task.task c.args.row.now.items x before
          (settled_back sending.QueueStandsFor c.loop-task.task (length c.args.row.now.items) (sent_in x) c.args.takers.now.items c.loop-task.takers.items i.go_on
          (subst (λ (n : ℕ). AllSettled sending.QueueStandsFor c.loop-task.task n (sent_in x) c.loop-task.takers.items) all c.settle_sender.ensures.settled))
          i.settled;
    }

pub returns-clause-many : goal.returns-clause-many
returns-clause-many g c = c.loop-task.invariant.row.many

pub returns-clause-row : goal.returns-clause-row
returns-clause-row g c =
    up_to_all WithoutPartition c.loop-task.task c.args.row.now.items c.loop-task.row.items c.loop-task.invariant.row (let all = ap length c.as_slice-tasks.ensures in omega (arith, all))

pub returns-clause-settled : goal.returns-clause-settled
returns-clause-settled g c = λ a place at. c.loop-task.invariant.settled a place (let low = slice_get_within c.args.row.now.items a place at in let all = ap length c.as_slice-tasks.ensures in omega (arith, low, all)) at
