use Rattle.std.proofs.Common.{◌≡◌, Result, Ok, refl, ap, subst, ◌∙◌, inl, inr}
use Rattle.flow_defs.specs.declared.cause.Cause.{Cause}
use Rattle.flow_defs.specs.Jobs.{last_edge}
use Rattle.task_taking.specs.declared.taking.Taken.{Taken}
use Rattle.task_taking.specs.Steps.{TookNext, TakingGoesOn}
use Rattle.aggregate_task.proofs.Acknowledging.{same_itself}
use Rattle.aggregate_task.proofs.OneItem.{Gave, begins, counts_line, comes_to, line_ended, all_ended, gate_ended, barrier_ended}
use Rattle.aggregate_task.proofs.counting.count_all.Given.{Over}
use Rattle.aggregate_task.proofs.counting.count_all.Goals.{After-next-in-loop-item}
use Rattle.aggregate_task.proofs.counting.count_all.Goals as goal

pub loop-item-init : goal.loop-item-init
loop-item-init g c = record {
  gate = (refl, refl);
  own = c.requires.own.0;
  same = same_itself c.args.out.now;
  way = begins (g.G.Gate.account c.args.gate.now) (g.G.Gate.shows c.args.gate.now) c.args.taking c.args.out.now c.args.counts c.requires.own.0 c.requires.counts c.requires.own.1 c.requires.new.0 c.requires.new.1;
}

-- what the gate answered was taken behind what was counted
gave : (g : Over) (c : After-next-in-loop-item g) (answer : Result Taken Cause) → c.next-in-loop-item.result ≡ answer
    → Gave (g.G.Gate.account c.loop-item.gate) (g.G.Gate.account c.next-in-loop-item.new.gate) (g.G.Gate.shows c.loop-item.gate) (g.G.Gate.shows c.next-in-loop-item.new.gate) c.loop-item.taking c.next-in-loop-item.new.self c.loop-item.counts c.loop-item.out c.loop-item.last answer
gave g c answer is =
    let job = c.loop-item.out.job.now in
    let way = c.loop-item.invariant.way in
    let gate = g.G.Gate.account c.next-in-loop-item.new.gate in
    let taking = c.next-in-loop-item.new.self in
    record {
      way = way;
      took = subst (TookNext job (last_edge job) c.loop-item.out.index gate (g.G.Gate.shows c.next-in-loop-item.new.gate) taking way.groups way.took) is
          (c.next-in-loop-item.ensures.took job (last_edge job) c.loop-item.out.index way.groups way.took way.taken);
      goes_on = subst (TakingGoesOn gate c.loop-item.taking taking) is c.next-in-loop-item.ensures.goes_on;
    }

-- ---- it took a record

pub returns-then-last-clause-account : goal.returns-then-last-clause-account
returns-then-last-clause-account g c =
    let line = gave g (goal.at.returns-then-last-clause-account g c).After-next-in-loop-item _ (c.in-Ok-Line.is ∙ ap Ok c.in-Ok-Line.field-0-is) in
    line_ended line c.out_of_order.result c.out_of_order.ensures.1 (inr (c.if-last.true, c.out_of_order.ensures.0))

pub returns-in-Err-add-clause-account : goal.returns-in-Err-add-clause-account
returns-in-Err-add-clause-account g c =
    let line = gave g (goal.at.returns-in-Err-add-clause-account g c).After-next-in-loop-item _ (c.in-Ok-Line.is ∙ ap Ok c.in-Ok-Line.field-0-is) in
    line_ended line c.ending.result c.ending.ensures.1 (inl c.ending.ensures.0)

pub loop-item-preserved-in-Ok : goal.loop-item-preserved-in-Ok
loop-item-preserved-in-Ok g c =
    let v = c.loop-item.invariant in
    let line = gave g (goal.at.loop-item-preserved-in-Ok g c).After-next-in-loop-item _ (c.in-Ok-Line.is ∙ ap Ok c.in-Ok-Line.field-0-is) in
    record {
      gate = (c.next-in-loop-item.ensures.gate.0 ∙ v.gate.0, c.next-in-loop-item.ensures.gate.1 ∙ v.gate.1);
      own = v.own;
      same = v.same;
      way = counts_line line c.add.new.self c.if-last.false c.in-Ok.ensures.ok;
    }

-- ---- it came to the barriers of a checkpoint

pub returns-then-last-2-clause-account : goal.returns-then-last-2-clause-account
returns-then-last-2-clause-account g c =
    let end = c.out_of_order-then-last-2 in
    let barriers = gave g (goal.at.returns-then-last-2-clause-account g c).After-next-in-loop-item _ (c.in-Ok-Checkpoint.is ∙ ap Ok c.in-Ok-Checkpoint.field-0-is) in
    barrier_ended barriers end.result end.ensures.1 c.if-last-2.true end.ensures.0

pub take_checkpoint-requires-clause-at : goal.take_checkpoint-requires-clause-at
take_checkpoint-requires-clause-at g c =
    comes_to (gave g (goal.at.take_checkpoint-requires-clause-at g c).After-next-in-loop-item _ (c.in-Ok-Checkpoint.is ∙ ap Ok c.in-Ok-Checkpoint.field-0-is)) c.if-last-2.false

-- ---- its channels ended

pub returns-then-last-3-clause-account : goal.returns-then-last-3-clause-account
returns-then-last-3-clause-account g c =
    let end = c.ending-then-last-3 in
    let all = gave g (goal.at.returns-then-last-3-clause-account g c).After-next-in-loop-item _ (c.in-Ok-AllEnded.is ∙ ap Ok c.in-Ok-AllEnded.field-0-is) in
    all_ended all end.result end.ensures.1 (inl (c.if-last-3.true, end.ensures.0))

pub returns-in-Ok-AllEnded-clause-account : goal.returns-in-Ok-AllEnded-clause-account
returns-in-Ok-AllEnded-clause-account g c =
    let end = c.out_of_order-in-Ok-AllEnded in
    let all = gave g (goal.at.returns-in-Ok-AllEnded-clause-account g c).After-next-in-loop-item _ (c.in-Ok-AllEnded.is ∙ ap Ok c.in-Ok-AllEnded.field-0-is) in
    all_ended all end.result end.ensures.1 (inr (c.if-last-3.false, end.ensures.0))

-- ---- the gate gave nothing more

pub returns-in-Err-clause-account : goal.returns-in-Err-clause-account
returns-in-Err-clause-account g c =
    let end = c.ending-in-Err in
    gate_ended (gave g (goal.at.returns-in-Err-clause-account g c).After-next-in-loop-item _ c.in-Err.is) end.result end.ensures.1 end.ensures.0
