use Rattle.std.proofs.Common.{subst, ◌∙◌, Ok, Option}
use Rattle.task_taking.specs.declared.taking.Taken.{Taken}
use Rattle.task_taking.specs.Steps.{GoesOnFrom, TookItem}
use Rattle.task_taking.proofs.taking.TaskTaking.next.Goals as goal

pub loop-item-preserved : goal.loop-item-preserved
loop-item-preserved g c =
    let i = c.loop-item.invariant in
    let after = g.G.Gate.account c.take_item.new.gate in
    let shown = g.G.Gate.shows c.take_item.new.gate in
    let on = c.in-Ok-None.ensures in
    let goes_on = subst (λ (item : Option Taken). GoesOnFrom after c.loop-item.self c.take_item.new.self (Ok item)) c.in-Ok-None.field-0-is on.goes_on in record {
      gate = (on.gate.0 ∙ i.gate.0, on.gate.1 ∙ i.gate.1);
      same = record { exchange = on.same.exchange ∙ i.same.exchange; index = on.same.index ∙ i.same.index; channels = on.same.channels ∙ i.same.channels };
      in_step = goes_on.0;
      closed = goes_on.1 ∙ i.closed;
      took = λ job e b groups took has.
          subst (λ (item : Option Taken). TookItem job e b after shown c.take_item.new.self groups took (Ok item)) c.in-Ok-None.field-0-is (on.took job e b groups took (i.took job e b groups took has));
    }

pub returns-in-Err-clause-took : goal.returns-in-Err-clause-took
returns-in-Err-clause-took g c = λ job e b groups took has. c.in-Err.ensures.took job e b groups took (c.loop-item.invariant.took job e b groups took has)
