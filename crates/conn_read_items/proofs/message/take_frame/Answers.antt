use Rattle.std.proofs.Common.{refl}
use Rattle.conn_read_items.proofs.Asking.{for_none}
use Rattle.conn_read_items.proofs.MessageLaws.{took_if, took_told_if}
use Rattle.conn_read_items.proofs.message.take_frame.Goals as goal

pub returns-in-BufferResponse-clause-took : goal.returns-in-BufferResponse-clause-took
returns-in-BufferResponse-clause-took g c = let at = c.in-BufferResponse in
    took_if c.args.cells.now.channels.now c.args.passes.now.inputs.items c.take_arrival.new.passes.inputs.items c.args.frame at.channel at.sequence at.backlog at.what c.args.content.now
    c.arrival_with.result c.take_arrival.result at.is c.arrival_with.ensures c.take_arrival.ensures.known c.take_arrival.ensures.gave

pub returns-in-BacklogAnnouncement-clause-took : goal.returns-in-BacklogAnnouncement-clause-took
returns-in-BacklogAnnouncement-clause-took g c = let at = c.in-BacklogAnnouncement in
    took_told_if c.args.cells.now.channels.now c.args.passes.now.inputs.items c.take_backlog.new.passes.inputs.items c.args.frame at.channel at.backlog c.args.content.now
    c.take_backlog.result at.is c.take_backlog.ensures.known c.take_backlog.ensures.gave

pub returns-in-BufferResponse-clause-asked : goal.returns-in-BufferResponse-clause-asked
returns-in-BufferResponse-clause-asked g c = c.take_arrival.ensures.asked

pub returns-in-BacklogAnnouncement-clause-asked : goal.returns-in-BacklogAnnouncement-clause-asked
returns-in-BacklogAnnouncement-clause-asked g c = c.take_backlog.ensures.asked

pub returns-in-ErrorResponse-clause-asked : goal.returns-in-ErrorResponse-clause-asked
returns-in-ErrorResponse-clause-asked g c = λ task. for_none c.args.cells.now.channels.now task c.args.passes.now c.args.passes.now refl refl

pub returns-in-Close-clause-asked : goal.returns-in-Close-clause-asked
returns-in-Close-clause-asked g c = λ task. for_none c.args.cells.now.channels.now task c.args.passes.now c.args.passes.now refl refl

pub returns-in-PartitionRequest-clause-asked : goal.returns-in-PartitionRequest-clause-asked
returns-in-PartitionRequest-clause-asked g c = λ task. for_none c.args.cells.now.channels.now task c.args.passes.now c.args.passes.now refl refl

pub returns-in-AddCredit-clause-asked : goal.returns-in-AddCredit-clause-asked
returns-in-AddCredit-clause-asked g c = λ task. for_none c.args.cells.now.channels.now task c.args.passes.now c.args.passes.now refl refl

pub returns-in-ResumeConsumption-clause-asked : goal.returns-in-ResumeConsumption-clause-asked
returns-in-ResumeConsumption-clause-asked g c = λ task. for_none c.args.cells.now.channels.now task c.args.passes.now c.args.passes.now refl refl

pub returns-in-NewBufferSize-clause-asked : goal.returns-in-NewBufferSize-clause-asked
returns-in-NewBufferSize-clause-asked g c = λ task. for_none c.args.cells.now.channels.now task c.args.passes.now c.args.passes.now refl refl
