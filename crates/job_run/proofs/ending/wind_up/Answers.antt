use Rattle.std.proofs.Common.{◌≡◌, ◌++◌, suc, List, length, sym, ap, subst, ◌∙◌, arith}
use Rattle.std.specs.Prelude.{IsSome}
use Rattle.std.specs.List.{filter_map}
use Rattle.flow_defs.specs.declared.cause.Cause.TheVariants.{Done}
use Rattle.flow_defs.specs.Items.{Items}
use Rattle.flow_defs.specs.Jobs.{last_edge}
use Rattle.snapshot_channel.specs.Passes.{IsCollecting}
use Rattle.turn_cell.specs.Passes.{seen}
use Rattle.collecting_worker.specs.declared.world.CollectEnd.{CollectEnd}
use Rattle.job_ends.specs.Ended.{LoopPlace, TaskPlace, HasLinkFault, HaveAcknowledged}
use Rattle.job_ends.specs.Returning.{RowsCameBack}
use Rattle.job_outcome.specs.Theorems.{AreLeftIn, AreSettledWith}
use Rattle.job_run.specs.Runs.{input_in}
use Rattle.job_run.proofs.InputLaws.{first_came, first_left, first_many}
use Rattle.job_run.proofs.RunLaws.{IsOutcome, ended_lent, has_image, is_answer, of_lent, same_end}
use Rattle.job_run.proofs.ending.wind_up.Goals as goal

pub settle_all-requires-clause-ended : goal.settle_all-requires-clause-ended
settle_all-requires-clause-ended g c κs within =
    let ended = c.requires.ended in (
      ended.0,
      ended_lent c.as_mut_slice.ensures.value c.as_mut_slice-2.ensures.value ended.1,
    )

pub settle_all-requires-clause-acknowledged : goal.settle_all-requires-clause-acknowledged
settle_all-requires-clause-acknowledged g c κs within =
    subst (λ (r : List (Items (TaskPlace g.row.S.Denot))). HaveAcknowledged c.args.job.now c.args.cells.now.channel r) (sym c.as_mut_slice.ensures.value) c.requires.acknowledged

pub take_inputs-requires : goal.take_inputs-requires
take_inputs-requires g c =
    let many = first_many c.requires.ended.1 c.requires.left c.as_mut_slice.ensures.value c.settle_all.ensures.rest c.as_mut_slice-3.ensures.value
    c.index-as_mut_slice-0.is c.as_mut_slice-4.ensures.value in
    let room = c.requires.inputs.1 in
    omega (arith, many, room)

pub returns-clause-inputs : goal.returns-clause-inputs
returns-clause-inputs g c =
    let taken : c.take_inputs.new.inputs.items ≡ filter_map input_in c.as_mut_slice-4.result.now =
    c.take_inputs.ensures ∙ ap (λ (l : List g.row.S.Denot). l ++ filter_map input_in c.as_mut_slice-4.result.now) c.requires.inputs.0 in
    let many = first_came c.requires.ended.1 c.requires.left c.as_mut_slice.ensures.value c.settle_all.ensures.rest c.as_mut_slice-3.ensures.value
    c.index-as_mut_slice-0.is c.as_mut_slice-4.ensures.value in
    let left = first_left c.requires.ended.1 c.requires.left c.as_mut_slice.ensures.value c.settle_all.ensures.rest c.as_mut_slice-3.ensures.value
    c.index-as_mut_slice-0.is c.as_mut_slice-4.ensures.value in
    (subst (λ (l : List g.row.S.Denot). AreLeftIn c.args.ran.rows.items l) (sym taken) left, ap length taken ∙ many)

pub returns-clause-wires : goal.returns-clause-wires
returns-clause-wires g c =
    subst (λ (l : List (Items (LoopPlace g.row.N-Out.Denot g.row.N-In.Denot))). RowsCameBack g.N.In.LinkIn.got g.N.In.LinkIn.ended (g.N.Links.wires c.args.net.now) (g.N.Links.wires c.settle_all.new.net) l (suc (last_edge c.args.job.now)))
    c.as_mut_slice-2.ensures.value c.settle_all.ensures.wires

pub answer_of-answer-requires : goal.answer_of-answer-requires
answer_of-answer-requires g c =
    let same = same_end c.requires.collected.end c.end_in-collecting.result c.requires.collected.end_is c.end_in-collecting.ensures in
    let outcome : IsOutcome c.args.ran.rows.items c.args.ran.loops.items c.args.ran.collected (seen c.look_for_stop-told.new.pass) c.outcome_of-cause.result =
    of_lent c.as_slice.ensures c.as_slice-2.ensures (record {
      done = c.outcome_of-cause.ensures.done.0;
      ended = c.outcome_of-cause.ensures.ended;
      not_stopped = c.outcome_of-cause.ensures.stopped;
      first = λ not other. sym c.look_for_stop-told.ensures.answer ∙ c.outcome_of-cause.ensures.told not other;
    }) in
    has_image outcome c.end_in-collecting.result c.end_in-collecting.ensures (subst (λ (end : CollectEnd). end.cause ≡ Done → IsSome end.last) same c.requires.collected.last)

pub settle_all-requires-clause-collecting : goal.settle_all-requires-clause-collecting
settle_all-requires-clause-collecting g c κs within =
    let same = same_end c.requires.collected.end c.end_in-collecting.result c.requires.collected.end_is c.end_in-collecting.ensures in
    subst (λ (end : CollectEnd). IsCollecting c.args.cells.now.channel end.collecting) same c.requires.collected.collecting

pub returns-clause-answer : goal.returns-clause-answer
returns-clause-answer g c =
    let outcome : IsOutcome c.args.ran.rows.items c.args.ran.loops.items c.args.ran.collected (seen c.look_for_stop-told.new.pass) c.outcome_of-cause.result =
    of_lent c.as_slice.ensures c.as_slice-2.ensures (record {
      done = c.outcome_of-cause.ensures.done.0;
      ended = c.outcome_of-cause.ensures.ended;
      not_stopped = c.outcome_of-cause.ensures.stopped;
      first = λ not other. sym c.look_for_stop-told.ensures.answer ∙ c.outcome_of-cause.ensures.told not other;
    }) in
    is_answer outcome c.answer_of-answer.result c.end_in-collecting.result c.end_in-collecting.ensures c.answer_of-answer.ensures.done c.answer_of-answer.ensures.table c.answer_of-answer.ensures.fault

pub returns-clause-settled : goal.returns-clause-settled
returns-clause-settled g c = λ tell end is.
    let same = same_end end c.end_in-collecting.result is c.end_in-collecting.ensures in
    subst (λ (r : List (Items (TaskPlace g.row.S.Denot))). AreSettledWith c.args.job.now r end) c.as_mut_slice.ensures.value
    (c.settle_all.ensures.settled tell end (ap (λ (e : CollectEnd). e.collecting) same))

pub returns-clause-stop : goal.returns-clause-stop
returns-clause-stop g c = c.look_for_stop-told.ensures.pass.0

pub returns-clause-fault : goal.returns-clause-fault
returns-clause-fault g c = λ failed.
    c.settle_all.ensures.fault (subst (λ (l : List (Items (LoopPlace g.row.N-Out.Denot g.row.N-In.Denot))). HasLinkFault g.N.Out.LinkOut.faults g.N.In.LinkIn.faults l) (sym c.as_mut_slice-2.ensures.value) failed)
