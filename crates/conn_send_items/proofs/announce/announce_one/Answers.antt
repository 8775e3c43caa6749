use Rattle.std.proofs.Common.{◌≡◌, ◌++◌, ◌∷◌, [], ap}
use Rattle.turn_cell.specs.Passes.{mine}
use Rattle.reader_state.specs.declared.entry.ReaderEntry.TheVariants.{Told}
use Rattle.reader_state.specs.Standing.{told_last, announced_on}
use Rattle.conn_send_items.proofs.Noting.{last_noted, noted_still, backlog_same_own}
use Rattle.conn_send_items.proofs.Saying.{told_more, lays_quiet, sends_told}
use Rattle.conn_send_items.proofs.Sent.{announced_quiet, announced_none, announced_one, lays_told}
use Rattle.conn_send_items.proofs.announce.announce_one.Goals as goal

pub returns-in_default-clause-lays : goal.returns-in_default-clause-lays
returns-in_default-clause-lays g c =
    let channels = c.args.cells.now.channels.now in let passes = c.args.passes.now in let own = mine passes.readers in let own_after = mine c.next_to_announce.new.pass in
    let same = announced_none own own_after c.next_to_announce.result c.in_default.is c.next_to_announce.ensures.told in
    lays_quiet channels passes.subpartitions.items passes.subpartitions.items own own_after c.args.room.now.ended.items c.args.room.now.outgoing
    (sends_told channels passes.subpartitions.items own own_after (announced_quiet own own_after c.next_to_announce.result c.next_to_announce.ensures.told) (λ d. ap (announced_on d) same))

pub returns-in_default-clause-told : goal.returns-in_default-clause-told
returns-in_default-clause-told g c =
    let channels = c.args.cells.now.channels.now in let passes = c.args.passes.now in let own = mine passes.readers in let own_after = mine c.next_to_announce.new.pass in
    let same = announced_none own own_after c.next_to_announce.result c.in_default.is c.next_to_announce.ensures.told in
    noted_still c.args.cells.now passes _ c.args.room.now.told.items (backlog_same_own channels passes.subpartitions.items own own_after (λ d. ap (told_last d) same)) c.requires.told

pub returns-clause-lays : goal.returns-clause-lays
returns-clause-lays g c =
    let channels = c.args.cells.now.channels.now in let passes = c.args.passes.now in let own = mine passes.readers in let own_after = mine c.next_to_announce.new.pass in
    lays_told channels passes.subpartitions.items own own_after c.args.room.now.ended.items c.args.room.now.outgoing c.put.new.self c.in-Some.told.channel c.in-Some.told.backlog
    (announced_quiet own own_after c.next_to_announce.result c.next_to_announce.ensures.told)
    (announced_one own own_after c.next_to_announce.result c.in-Some.told c.in-Some.is c.next_to_announce.ensures.told) c.in-Some.ensures.due.backlog
    (last_noted c.args.cells.now passes c.args.room.now.told.items c.requires.told) c.put.ensures.is_frame c.put.ensures.laid

pub returns-clause-told : goal.returns-clause-told
returns-clause-told g c =
    let channels = c.args.cells.now.channels.now in let passes = c.args.passes.now in let own = mine passes.readers in let own_after = mine c.next_to_announce.new.pass in
    let one : own_after ≡ own ++ Told c.in-Some.told.channel ∷ [] = announced_one own own_after c.next_to_announce.result c.in-Some.told c.in-Some.is c.next_to_announce.ensures.told in
    noted_still c.args.cells.now passes _ c.args.room.now.told.items (backlog_same_own channels passes.subpartitions.items own own_after (λ d. told_more d own own_after (Told c.in-Some.told.channel) one)) c.requires.told
