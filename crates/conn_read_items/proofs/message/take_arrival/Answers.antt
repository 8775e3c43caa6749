use Rattle.std.proofs.Common.{refl}
use Rattle.input_channel.specs.declared.entry.ReceiveEntry.TheVariants.{Push}
use Rattle.input_channel.specs.Answers.{parcel_in}
use Rattle.conn_read_items.proofs.Asking.{for_none, for_one}
use Rattle.conn_read_items.proofs.MessageLaws.{gave_note}
use Rattle.conn_read_items.proofs.message.take_arrival.Goals as goal

pub returns-in-Ok-clause-gave : goal.returns-in-Ok-clause-gave
returns-in-Ok-clause-gave g c =
    gave_note c.args.cells.now.channels.now c.in-Some.place c.args.channel c.args.passes.now.inputs.items c.give_at.new.passes.inputs.items (Push (parcel_in c.args.a.what c.args.bytes.now) c.args.a.backlog)
    c.requires.lent.distinct c.in-Some.ensures.found.1 c.in-Ok.ensures.gave

pub returns-in_default-clause-asked : goal.returns-in_default-clause-asked
returns-in_default-clause-asked g c = λ task. for_none c.args.cells.now.channels.now task c.args.passes.now c.args.passes.now refl refl

pub returns-in-Ok-clause-asked : goal.returns-in-Ok-clause-asked
returns-in-Ok-clause-asked g c = λ task.
    for_one c.args.cells.now.channels.now task c.in-Some.place c.args.channel c.args.passes.now c.give_at.new.passes c.in-Some.ensures.found.1 c.give_at.ensures.asked

pub returns-in-Err-clause-asked : goal.returns-in-Err-clause-asked
returns-in-Err-clause-asked g c = λ task.
    for_one c.args.cells.now.channels.now task c.in-Some.place c.args.channel c.args.passes.now c.give_at.new.passes c.in-Some.ensures.found.1 c.give_at.ensures.asked
