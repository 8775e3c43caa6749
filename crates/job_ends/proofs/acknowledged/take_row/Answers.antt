use Rattle.std.proofs.Common.{◌++◌, List, length, slice_index_or, sym, ap, ◌∙◌, append-nil, arith}
use Rattle.std.specs.List.{flat_map}
use Rattle.std.proofs.lemmas.List.{take_all}
use Rattle.job_ends.specs.Leaving.{WithoutSnapshots, acknowledged_in}
use Rattle.job_ends.proofs.Acknowledging.{acknowledged_is, joined_more}
use Rattle.job_ends.proofs.Rows.{at_lent, stood, lent_more, up_to_none, up_to_all}
use Rattle.job_ends.proofs.acknowledged.take_row.Goals as goal

pub loop-task-init : goal.loop-task-init
loop-task-init g c = record {
  row = up_to_none WithoutSnapshots c.args.row.now.items;
  passes = sym (append-nil c.args.passes.now.items);
  room = omega arith;
}

pub take_snapshots-pass-requires : goal.take_snapshots-pass-requires
take_snapshots-pass-requires g c =
    let i = c.loop-task.invariant in
    let x = slice_index_or c.as_mut_slice.result.now c.loop-task.task c.index-as_mut_slice-task.result in
    let many = i.row.many in
    let all = ap length c.as_slice-tasks.ensures in
    let at = at_lent c.loop-task.row.items c.as_mut_slice.result.now c.loop-task.task c.index-as_mut_slice-task.result c.as_mut_slice.ensures.value (omega (arith, many, all)) c.index-as_mut_slice-task.is in
    c.requires.have c.loop-task.task x (stood WithoutSnapshots c.loop-task.task c.args.row.now.items c.loop-task.row.items x i.row at)

pub push_pass-requires : goal.push_pass-requires
push_pass-requires g c =
    let all = ap length c.as_slice-tasks.ensures in
    let enough = c.requires.room in
    let room = c.loop-task.invariant.room in
    omega (arith, all, enough, room)

pub loop-task-preserved : goal.loop-task-preserved
loop-task-preserved g c =
    let i = c.loop-task.invariant in
    let x = slice_index_or c.as_mut_slice.result.now c.loop-task.task c.index-as_mut_slice-task.result in
    let many = i.row.many in
    let all = ap length c.as_slice-tasks.ensures in
    let at = at_lent c.loop-task.row.items c.as_mut_slice.result.now c.loop-task.task c.index-as_mut_slice-task.result c.as_mut_slice.ensures.value (omega (arith, many, all)) c.index-as_mut_slice-task.is in
    let before = stood WithoutSnapshots c.loop-task.task c.args.row.now.items c.loop-task.row.items x i.row at in
    let after = c.take_snapshots-pass.new.place in
    let pass = c.take_snapshots-pass.result in
    record {
      row = lent_more WithoutSnapshots c.loop-task.task c.args.row.now.items c.loop-task.row.items c.as_mut_slice.result.now x after i.row c.as_mut_slice.ensures.value at c.take_snapshots-pass.ensures.without;
      passes = joined_more acknowledged_in c.args.passes.now.items c.loop-task.passes.items c.push_pass.new.passes.items c.args.row.now.items c.loop-task.task x before i.passes
          (c.push_pass.ensures.items ∙ ap (λ (l : List _). c.loop-task.passes.items ++ l) (sym (acknowledged_is x after pass c.take_snapshots-pass.ensures)));
      room = (let before_room = i.room in let after_room = c.push_pass.ensures.room in omega (arith, before_room, after_room));
    }

pub returns-clause-row : goal.returns-clause-row
returns-clause-row g c =
    let all = ap length c.as_slice-tasks.ensures in
    record {
      many = c.loop-task.invariant.row.many;
      each = up_to_all WithoutSnapshots c.loop-task.task c.args.row.now.items c.loop-task.row.items c.loop-task.invariant.row (omega (arith, all));
    }

pub returns-clause-passes : goal.returns-clause-passes
returns-clause-passes g c =
    let all = ap length c.as_slice-tasks.ensures in
    c.loop-task.invariant.passes
    ∙ ap (λ (l : List _). c.args.passes.now.items ++ flat_map acknowledged_in l) (take_all c.loop-task.task c.args.row.now.items (omega (arith, all)))

pub returns-clause-room : goal.returns-clause-room
returns-clause-room g c = let all = ap length c.as_slice-tasks.ensures in let room = c.loop-task.invariant.room in omega (arith, all, room)
