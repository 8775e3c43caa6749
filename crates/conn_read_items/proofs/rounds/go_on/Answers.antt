use Rattle.std.proofs.Common.{refl, subst}
use Rattle.conn_read_items.specs.Taking.{TookMessage}
use Rattle.conn_read_items.proofs.Asking.{for_none, for_more}
use Rattle.conn_read_items.proofs.RoundLaws.{went_on_took}
use Rattle.conn_read_items.proofs.rounds.go_on.Goals as goal

pub returns-in-Took-clause-went_on : goal.returns-in-Took-clause-went_on
returns-in-Took-clause-went_on g c =
    let channels = c.args.cells.now.channels.now in let before = c.args.passes.now.inputs.items in let after = c.take_message.new.passes.inputs.items in
    went_on_took channels before after (g.I.LinkIn.got c.args.input.now) c.args.incoming.now c.consume.new.self c.in-Took.count c.consume.ensures
    (subst (λ bytes. TookMessage channels before after bytes c.in-Took.count) c.bytes.ensures c.in-Took.ensures.step)

pub returns-in-Took-clause-asked : goal.returns-in-Took-clause-asked
returns-in-Took-clause-asked g c = c.take_message.ensures.asked

pub returns-in-More-clause-asked : goal.returns-in-More-clause-asked
returns-in-More-clause-asked g c = λ task.
    for_more c.args.cells.now.channels.now task c.args.passes.now c.take_message.new.passes c.read_more.new.passes (c.take_message.ensures.asked task) (c.read_more.ensures.asked task)

pub returns-in-Ends-clause-asked : goal.returns-in-Ends-clause-asked
returns-in-Ends-clause-asked g c = λ task. let channels = c.args.cells.now.channels.now in
    for_more channels task c.args.passes.now c.take_message.new.passes _ (c.take_message.ensures.asked task) (for_none channels task c.take_message.new.passes _ refl refl)
