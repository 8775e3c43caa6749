use Rattle.std.proofs.Common.{◌*◌, length, slice_index_or, ℕ, ap, arith}
use Rattle.std.proofs.lemmas.Option.{slice_get_within}
use Rattle.input_channel.specs.States as receiving
use Rattle.job_ends.specs.Settling.{AllSettled}
use Rattle.job_ends.specs.Leaving.{WithoutGate, taken_in}
use Rattle.job_ends.proofs.Loops.{go_on_nothing, go_on_again}
use Rattle.job_ends.proofs.Rows.{at_lent, stood, lent_more, each_more, up_to_none, up_to_all}
use Rattle.job_ends.proofs.Leavings.{settled_back}
use Rattle.job_ends.proofs.stages.settle_takers.Goals as goal

pub loop-task-init : goal.loop-task-init
loop-task-init g c = record {
  pushers = c.requires.pushers;
  go_on = go_on_nothing c.args.pushers.now.items;
  row = up_to_none WithoutGate c.args.row.now.items;
  settled = λ b place low at. absurd (omega (arith, low));
}

pub settle_taker-requires-clause-took : goal.settle_taker-requires-clause-took
settle_taker-requires-clause-took g c =
    let i = c.loop-task.invariant in
    let x = slice_index_or c.as_mut_slice.result.now c.loop-task.task c.index-as_mut_slice-task.result in
    let many = i.row.many in
    let all = ap length c.as_slice-tasks.ensures in
    let at = at_lent c.loop-task.row.items c.as_mut_slice.result.now c.loop-task.task c.index-as_mut_slice-task.result c.as_mut_slice.ensures.value (omega (arith, many, all)) c.index-as_mut_slice-task.is in
    c.requires.took c.loop-task.task x (stood WithoutGate c.loop-task.task c.args.row.now.items c.loop-task.row.items x i.row at)

pub loop-task-preserved : goal.loop-task-preserved
loop-task-preserved g c =
    let i = c.loop-task.invariant in
    let x = slice_index_or c.as_mut_slice.result.now c.loop-task.task c.index-as_mut_slice-task.result in
    let many = i.row.many in
    let all = ap length c.as_slice-tasks.ensures in
    let at = at_lent c.loop-task.row.items c.as_mut_slice.result.now c.loop-task.task c.index-as_mut_slice-task.result c.as_mut_slice.ensures.value (omega (arith, many, all)) c.index-as_mut_slice-task.is in
    let before = stood WithoutGate c.loop-task.task c.args.row.now.items c.loop-task.row.items x i.row at in
    record {
      pushers = c.settle_taker.ensures.pushers;
      go_on = go_on_again c.args.pushers.now.items c.loop-task.pushers.items c.settle_taker.new.pushers.items i.go_on c.settle_taker.ensures.go_on;
      row = lent_more WithoutGate c.loop-task.task c.args.row.now.items c.loop-task.row.items c.as_mut_slice.result.now x c.settle_taker.new.place i.row c.as_mut_slice.ensures.value at c.settle_taker.ensures.place;
      settled = each_more (λ (b : ℕ) (place : _). AllSettled receiving.ChannelStandsFor (b * length (taken_in place)) 1 (taken_in place) c.args.pushers.now.items) c.loop-task.task c.args.row.now.items x before
          (settled_back receiving.ChannelStandsFor (c.loop-task.task * length (taken_in x)) 1 (taken_in x) c.args.pushers.now.items c.loop-task.pushers.items i.go_on c.settle_taker.ensures.settled)
          i.settled;
    }

pub returns-clause-many : goal.returns-clause-many
returns-clause-many g c = c.loop-task.invariant.row.many

pub returns-clause-row : goal.returns-clause-row
returns-clause-row g c =
    up_to_all WithoutGate c.loop-task.task c.args.row.now.items c.loop-task.row.items c.loop-task.invariant.row (let all = ap length c.as_slice-tasks.ensures in omega (arith, all))

pub returns-clause-settled : goal.returns-clause-settled
returns-clause-settled g c = λ b place at. c.loop-task.invariant.settled b place (let low = slice_get_within c.args.row.now.items b place at in let all = ap length c.as_slice-tasks.ensures in omega (arith, low, all)) at
