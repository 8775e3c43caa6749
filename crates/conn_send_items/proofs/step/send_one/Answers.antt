use Rattle.std.proofs.Common.{set, sym, ap, subst, ◌∙◌}
use Rattle.conn_parts.specs.Shares.{GrewAt}
use Rattle.conn_send_items.specs.Giving.{GaveBack, returned_of}
use Rattle.conn_send_items.proofs.Giving.{gives_one, gives_quiet}
use Rattle.turn_cell.specs.Passes.{mine}
use Rattle.conn_send_items.proofs.Sent.{ends_one, lays_one}
use Rattle.conn_send_items.proofs.Noting.{noted_set, noted_still, noted_same}
use Rattle.conn_send_items.proofs.step.send_one.Goals as goal

pub returns-clause-lays : goal.returns-clause-lays
returns-clause-lays g c =
    let channels = c.args.cells.now.channels.now in let next = c.in-Some.next in let passes = c.args.passes.now in let room = c.args.room.now in
    lays_one channels passes.subpartitions.items c.take_next.new.passes.subpartitions.items c.give_back.new.passes.subpartitions.items
    (mine passes.readers) (mine c.take_next.new.passes.readers) (mine c.give_back.new.passes.readers) room.ended.items c.lay.new.room.ended.items room.outgoing c.lay.new.room.outgoing
    next.channel next.sequence next.backlog next.item
    (ap (λ s. s.items) c.give_back.ensures.subpartitions) (ap (λ r. mine r) c.give_back.ensures.readers)
    c.in-Some.ensures.some (ends_one channels next.place next.channel c.in-Some.ensures.place.1 next.sequence next.backlog next.item room.ended.items c.lay.new.room.ended.items c.lay.ensures.ended)
    c.lay.ensures.frame c.lay.ensures.laid

pub returns-clause-told : goal.returns-clause-told
returns-clause-told g c = let next = c.in-Some.next in let told = c.args.room.now.told.items in
    let noted = noted_set c.args.cells.now c.args.passes.now c.take_next.new.passes told next.place next.front c.in-Some.ensures.backlog c.requires.told in
    let laid = ap (λ l. set l.items next.place next.front) c.lay.ensures.told in
    noted_same c.args.cells.now c.take_next.new.passes c.give_back.new.passes _ _ c.give_back.ensures.readers c.give_back.ensures.subpartitions (c.note_front.ensures ∙ laid) noted

pub returns-in_default-clause-told : goal.returns-in_default-clause-told
returns-in_default-clause-told g c = noted_still c.args.cells.now c.args.passes.now c.take_next.new.passes c.args.room.now.told.items (rw c.in_default.is at c.take_next.ensures.kept) c.requires.told

pub returns-clause-gives : goal.returns-clause-gives
returns-clause-gives g c = λ task.
    let channels = c.args.cells.now.channels.now in let next = c.in-Some.next in let passes = c.args.passes.now in
    let back = ap (λ s. s.items) c.give_back.ensures.subpartitions in
    subst (λ ps. GaveBack channels task passes.subpartitions.items ps passes.pools.items c.give_back.new.passes.pools.items) (sym back)
    (gives_one channels task next.place next.channel next.item passes.subpartitions.items c.take_next.new.passes.subpartitions.items passes.pools.items c.give_back.new.passes.pools.items
    c.in-Some.ensures.place.1 c.in-Some.ensures.took (subst (λ ps. GrewAt next.channel.from (returned_of next.item) ps c.give_back.new.passes.pools.items) (ap (λ l. l.items) c.in-Some.ensures.pools) c.give_back.ensures.returned))

pub returns-in_default-clause-gives : goal.returns-in_default-clause-gives
returns-in_default-clause-gives g c = λ task.
    let channels = c.args.cells.now.channels.now in let was = c.args.passes.now in let now = c.take_next.new.passes in
    let none = rw c.in_default.is at c.take_next.ensures.none in
    gives_quiet channels task was.subpartitions.items now.subpartitions.items was.pools.items now.pools.items none.took (ap (λ l. l.items) c.take_next.ensures.pools)
