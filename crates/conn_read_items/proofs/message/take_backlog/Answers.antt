use Rattle.std.proofs.Common.{refl}
use Rattle.input_channel.specs.declared.entry.ReceiveEntry.TheVariants.{Backlog}
use Rattle.conn_read_items.proofs.Asking.{for_none, for_one}
use Rattle.conn_read_items.proofs.MessageLaws.{gave_note}
use Rattle.conn_read_items.proofs.message.take_backlog.Goals as goal

pub returns-clause-gave : goal.returns-clause-gave
returns-clause-gave g c =
    gave_note c.args.cells.now.channels.now c.in-Some.place c.args.channel c.args.passes.now.inputs.items c.announce_at.new.passes.inputs.items (Backlog c.args.n)
    c.requires.lent.distinct c.in-Some.ensures.found.1 c.announce_at.ensures.gave

pub returns-in_default-clause-asked : goal.returns-in_default-clause-asked
returns-in_default-clause-asked g c = λ task. for_none c.args.cells.now.channels.now task c.args.passes.now c.args.passes.now refl refl

pub returns-clause-asked : goal.returns-clause-asked
returns-clause-asked g c = λ task.
    for_one c.args.cells.now.channels.now task c.in-Some.place c.args.channel c.args.passes.now c.announce_at.new.passes c.in-Some.ensures.found.1 c.announce_at.ensures.asked
