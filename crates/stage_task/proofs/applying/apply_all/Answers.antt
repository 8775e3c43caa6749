use Rattle.std.proofs.Common.{◌≡◌, Result, Ok, suc, inr, refl, sym, ap, subst, ◌∙◌}
use Rattle.flow_defs.specs.declared.cause.Cause.{Cause}
use Rattle.flow_defs.specs.Records.{IsShort}
use Rattle.flow_defs.specs.Stages.{apply}
use Rattle.plain_machine.specs.Emitting.{apply_behind}
use Rattle.checkpoint_laws.specs.Chapters.{applied}
use Rattle.task_taking.specs.Steps.{TookNext, TakingGoesOn}
use Rattle.task_taking.specs.Takings.{IsInStep}
use Rattle.task_taking.proofs.Groups.{had_taken}
use Rattle.task_taking.specs.declared.taking.Taken.{Taken}
use Rattle.stage_task.specs.Applying.{from_at, IsSameStage, HasOwnPasses, IsStageUnderWay}
use Rattle.stage_task.specs.Snapshots.{all_applied}
use Rattle.stage_task.proofs.Records.{applied_behind, gives_there}
use Rattle.stage_task.proofs.SameStage.{same_itself, same_output, own_output}
use Rattle.stage_task.proofs.Ends.{among_stopped, line_applied, line_ended, marked, mark_ended, gate_ended, ended_early, ends_so, next_mark}
use Rattle.stage_task.proofs.applying.apply_all.Given.{Over}
use Rattle.stage_task.proofs.applying.apply_all.Goals.{After-next-in-loop-item, After-apply_one, In-Ok}
use Rattle.stage_task.proofs.applying.apply_all.Goals as goal

pub loop-item-init : goal.loop-item-init
loop-item-init g c =
    record {
      gate = (refl, refl);
      same = same_itself c.args.out.now;
      in_step = c.requires.in_step;
      under_way = c.requires.under_way;
      own = c.requires.own;
    }

-- what the gate answered was taken behind what was taken before
took : (g : Over) (c : After-next-in-loop-item g) (answer : Result Taken Cause) → c.next-in-loop-item.result ≡ answer
    → let out = c.loop-item.out in let u = c.loop-item.invariant.under_way in TookNext out.job.now out.edge out.index (g.G.Gate.account c.next-in-loop-item.new.gate) (g.G.Gate.shows c.next-in-loop-item.new.gate) c.next-in-loop-item.new.self u.groups u.took answer
took g c answer is =
    let out = c.loop-item.out in
    let u = c.loop-item.invariant.under_way in
    let gate = g.G.Gate.account c.next-in-loop-item.new.gate in
    subst (TookNext out.job.now out.edge out.index gate (g.G.Gate.shows c.next-in-loop-item.new.gate) c.next-in-loop-item.new.self u.groups u.took) is (c.next-in-loop-item.ensures.took out.job.now out.edge out.index u.groups u.took u.applied_them.taken)

-- ---- it took a record

-- what the stage gives for it
gives_line : (g : Over) (c : After-apply_one g) → apply c.in-Some.stage.now c.as_slice-line.result.now ≡ apply_behind c.loop-item.out.job.now c.loop-item.out.edge c.in-Ok-Line.line.items
gives_line g c =
    let was = c.args.out.now in
    let same = c.loop-item.invariant.same in
    let stage = c.in-Some.stage.now in
    let r = c.as_slice-line.result.now in
    let line = c.in-Ok-Line.line.items in
    gives_there was.job c.loop-item.out.job was.edge c.loop-item.out.edge (apply stage r) line same.job same.edge
    (applied_behind was.job.now was.edge c.as_slice.result.now stage r line c.as_slice.ensures c.in-Some.ensures.lookup.3.0 (c.in-Some.ensures.lookup.3.1 stage) c.as_slice-line.ensures)

pub apply_one-requires-clause-short : goal.apply_one-requires-clause-short
apply_one-requires-clause-short g c =
    let line = took g (goal.at.apply_one-requires-clause-short g c).After-next-in-loop-item _ (c.in-Ok-Line.is ∙ ap Ok c.in-Ok-Line.field-0-is) in
    subst IsShort (sym c.as_slice-line.ensures) line.0

pub apply_one-requires-clause-is_open : goal.apply_one-requires-clause-is_open
apply_one-requires-clause-is_open g c = c.loop-item.invariant.under_way.applied_them.sent.is_open

pub returns-in-Err-apply_one-clause-ended : goal.returns-in-Err-apply_one-clause-ended
returns-in-Err-apply_one-clause-ended g c =
    let at = goal.at.returns-in-Err-apply_one-clause-ended g c in
    let line = took g at.After-next-in-loop-item _ (c.in-Ok-Line.is ∙ ap Ok c.in-Ok-Line.field-0-is) in
    let out = c.loop-item.out in
    let u = c.loop-item.invariant.under_way in
    let gate = g.G.Gate.account c.next-in-loop-item.new.gate in
    let o = c.apply_one.new.output in
    ends_so gate (g.G.Gate.shows c.next-in-loop-item.new.gate) (record out { output = o }) c.end_of.result c.end_of.ensures
    (line_ended out _ gate (g.G.Gate.shows c.loop-item.gate) (g.G.Gate.shows c.next-in-loop-item.new.gate) _ _ u.groups u.took u.applied_them line.1.0 c.in-Ok-Line.line.items _ line.1.1 (gives_line g at.After-apply_one)
    o c.in-Err-apply_one.cause c.apply_one.ensures.same.size
    (c.in-Err-apply_one.ensures.emitted (from_at out).emitted out.job.now (suc out.edge) out.index out.output.writer.size (all_applied out.job.now out.edge u.groups) (applied out.job.now out.edge u.took) u.applied_them.sent))

pub returns-in-Err-apply_one-clause-stopped : goal.returns-in-Err-apply_one-clause-stopped
returns-in-Err-apply_one-clause-stopped g c =
    let out = c.loop-item.out in
    let u = c.loop-item.invariant.under_way in
    let among = c.in-Err-apply_one.ensures.emitted (from_at out).emitted out.job.now (suc out.edge) out.index out.output.writer.size (all_applied out.job.now out.edge u.groups) (applied out.job.now out.edge u.took) u.applied_them.sent in
    among_stopped (g.G.Gate.saw_stop c.next-in-loop-item.new.gate) _ _ _ _ _ _ _ _ _ c.in-Err-apply_one.cause c.end_of.result.cause among c.end_of.ensures.1

-- it emitted all of it, and takes on
line_goes_on : (g : Over) (c : In-Ok g) → let now = g.G.Gate.account c.next-in-loop-item.new.gate in let out = record c.loop-item.out { output = c.apply_one.new.output } in record {
  gate : (g.G.Gate.ends c.next-in-loop-item.new.gate ≡ g.G.Gate.ends c.args.gate.now) × (now.channels ≡ (g.G.Gate.account c.args.gate.now).channels);
  same : IsSameStage c.args.out.now out;
  in_step : IsInStep now c.next-in-loop-item.new.self;
  under_way : IsStageUnderWay now (g.G.Gate.shows c.next-in-loop-item.new.gate) c.next-in-loop-item.new.self out;
  own : HasOwnPasses out;
}
line_goes_on g c =
    let at = goal.at.In-Ok g c in
    let is = c.in-Ok-Line.is ∙ ap Ok c.in-Ok-Line.field-0-is in
    let line = took g at.After-next-in-loop-item _ is in
    let out = c.loop-item.out in
    let v = c.loop-item.invariant in
    let u = v.under_way in
    let o = c.apply_one.new.output in
    record {
      gate = (c.next-in-loop-item.ensures.gate.0 ∙ v.gate.0, c.next-in-loop-item.ensures.gate.1 ∙ v.gate.1);
      same = same_output c.args.out.now out o c.apply_one.ensures.same v.same;
      in_step = (subst (TakingGoesOn (g.G.Gate.account c.next-in-loop-item.new.gate) c.loop-item.taking c.next-in-loop-item.new.self) is c.next-in-loop-item.ensures.goes_on).0;
      under_way = line_applied out _ _ (g.G.Gate.shows c.loop-item.gate) (g.G.Gate.shows c.next-in-loop-item.new.gate) _ _ u.groups u.took u.applied_them line.1.0 c.in-Ok-Line.line.items _ line.1.1 (gives_line g at.After-apply_one) o u.not_last
          (c.in-Ok.ensures.emitted (from_at out).emitted out.job.now (suc out.edge) out.index out.output.writer.size (all_applied out.job.now out.edge u.groups) (applied out.job.now out.edge u.took) u.applied_them.sent);
      own = own_output out o v.own;
    }

pub loop-item-preserved-in-Ok : goal.loop-item-preserved-in-Ok
loop-item-preserved-in-Ok g c = line_goes_on g (goal.at.loop-item-preserved-in-Ok g c).In-Ok

pub loop-item-preserved-in-Ok-2 : goal.loop-item-preserved-in-Ok-2
loop-item-preserved-in-Ok-2 g c = line_goes_on g (goal.at.loop-item-preserved-in-Ok-2 g c).In-Ok

-- ---- it came to the barriers of a checkpoint

pub mark-requires-clause-is_open : goal.mark-requires-clause-is_open
mark-requires-clause-is_open g c = c.loop-item.invariant.under_way.applied_them.sent.is_open

pub mark-requires-clause-next : goal.mark-requires-clause-next
mark-requires-clause-next g c =
    let u = c.loop-item.invariant.under_way in
    let barriers = took g (goal.at.mark-requires-clause-next g c).After-next-in-loop-item _ (c.in-Ok-Checkpoint.is ∙ ap Ok c.in-Ok-Checkpoint.field-0-is) in
    next_mark c.loop-item.out _ (g.G.Gate.shows c.loop-item.gate) _ u.groups u.took u.applied_them c.in-Ok-Checkpoint.k barriers.1

pub returns-in-Err-mark-clause-ended : goal.returns-in-Err-mark-clause-ended
returns-in-Err-mark-clause-ended g c =
    let barriers = took g (goal.at.returns-in-Err-mark-clause-ended g c).After-next-in-loop-item _ (c.in-Ok-Checkpoint.is ∙ ap Ok c.in-Ok-Checkpoint.field-0-is) in
    let out = c.loop-item.out in
    let u = c.loop-item.invariant.under_way in
    let gate = g.G.Gate.account c.next-in-loop-item.new.gate in
    ends_so gate (g.G.Gate.shows c.next-in-loop-item.new.gate) (record out { output = c.mark.new.self }) c.end_of-in-Err-mark.result c.end_of-in-Err-mark.ensures
    (mark_ended out _ gate (g.G.Gate.shows c.loop-item.gate) (g.G.Gate.shows c.next-in-loop-item.new.gate) _ _ u.groups u.took u.applied_them barriers.0 c.mark.new.self c.mark.ensures.same.size
    (c.in-Err-mark.ensures.marked (from_at out).emitted out.job.now (suc out.edge) out.index out.output.writer.size (all_applied out.job.now out.edge u.groups) (applied out.job.now out.edge u.took) u.applied_them.sent))

pub returns-in-Err-mark-clause-stopped : goal.returns-in-Err-mark-clause-stopped
returns-in-Err-mark-clause-stopped g c = λ is.
    let out = c.loop-item.out in
    let u = c.loop-item.invariant.under_way in
    inr (c.in-Err-mark.ensures.marked (from_at out).emitted out.job.now (suc out.edge) out.index out.output.writer.size (all_applied out.job.now out.edge u.groups) (applied out.job.now out.edge u.took) u.applied_them.sent).fault

pub acknowledge-requires-clause-marked : goal.acknowledge-requires-clause-marked
acknowledge-requires-clause-marked g c =
    let barriers = took g (goal.at.acknowledge-requires-clause-marked g c).After-next-in-loop-item _ (c.in-Ok-Checkpoint.is ∙ ap Ok c.in-Ok-Checkpoint.field-0-is) in
    let out = c.loop-item.out in
    let u = c.loop-item.invariant.under_way in
    marked out _ _ (g.G.Gate.shows c.loop-item.gate) (g.G.Gate.shows c.next-in-loop-item.new.gate) _ _ u.groups u.took u.applied_them barriers.0 c.mark.new.self u.not_last
    (c.in-Ok-mark.ensures.marked (from_at out).emitted out.job.now (suc out.edge) out.index out.output.writer.size (all_applied out.job.now out.edge u.groups) (applied out.job.now out.edge u.took) u.applied_them.sent)

pub acknowledge-requires-clause-own : goal.acknowledge-requires-clause-own
acknowledge-requires-clause-own g c = own_output c.loop-item.out c.mark.new.self c.loop-item.invariant.own

pub returns-in-Err-acknowledge-clause-stopped : goal.returns-in-Err-acknowledge-clause-stopped
returns-in-Err-acknowledge-clause-stopped g c = λ is. inr (c.in-Err-acknowledge.ensures.stopped is)

-- ---- it took nothing more

pub returns-in-Ok-AllEnded-clause-ended : goal.returns-in-Ok-AllEnded-clause-ended
returns-in-Ok-AllEnded-clause-ended g c =
    let all = took g (goal.at.returns-in-Ok-AllEnded-clause-ended g c).After-next-in-loop-item _ (c.in-Ok-AllEnded.is ∙ ap Ok c.in-Ok-AllEnded.field-0-is) in
    let u = c.loop-item.invariant.under_way in
    ends_so (g.G.Gate.account c.next-in-loop-item.new.gate) (g.G.Gate.shows c.next-in-loop-item.new.gate) c.loop-item.out c.end_of-in-Ok-AllEnded.result c.end_of-in-Ok-AllEnded.ensures
    (ended_early c.loop-item.out _ _ (g.G.Gate.shows c.loop-item.gate) (g.G.Gate.shows c.next-in-loop-item.new.gate) _ _ u.groups u.took u.applied_them c.what_was_sent_was_begun.ensures.sent (had_taken _ _ _ _ (g.G.Gate.shows c.next-in-loop-item.new.gate) _ _ _ all.0) u.not_last all.1)

pub returns-in-Err-clause-ended : goal.returns-in-Err-clause-ended
returns-in-Err-clause-ended g c =
    let none = took g (goal.at.returns-in-Err-clause-ended g c).After-next-in-loop-item _ c.in-Err.is in
    let u = c.loop-item.invariant.under_way in
    ends_so (g.G.Gate.account c.next-in-loop-item.new.gate) (g.G.Gate.shows c.next-in-loop-item.new.gate) c.loop-item.out c.end_of-in-Err.result c.end_of-in-Err.ensures
    (gate_ended c.loop-item.out _ _ (g.G.Gate.shows c.loop-item.gate) (g.G.Gate.shows c.next-in-loop-item.new.gate) _ _ u.groups u.took u.applied_them c.what_was_sent_was_begun.ensures.sent none.0 c.in-Err.cause none.1 none.2)
