use Rattle.std.proofs.Common.{◌≡◌, ◌∷◌, [], ◌++◌, ◌%◌, ◌^◌, Some, length, sym, ap, subst, ◌∙◌}
use Rattle.credit_reader.specs.Readers.{cost}
use Rattle.subpartition.specs.Queues.{parcel_of}
use Rattle.turn_cell.specs.Passes.{mine, seen}
use Rattle.reader_state.specs.declared.entry.ReaderEntry.TheVariants.{Sent}
use Rattle.reader_state.specs.Standing.{sent_on, told_last, announced_on}
use Rattle.reader_state.specs.Turning.{channels_in, HeadsStay, HeadsChange}
use Rattle.conn_parts.specs.Shares.{seen_at}
use Rattle.conn_send_items.specs.Fronts.{first_after}
use Rattle.conn_send_items.proofs.Fronts.{still_stands, stands_some, costs_told}
use Rattle.conn_send_items.proofs.Standing.{stands_on, stands_stay, stands_next}
use Rattle.conn_send_items.proofs.Saying.{sends_told}
use Rattle.conn_send_items.proofs.Sent.{sends_one}
use Rattle.conn_send_items.proofs.Noting.{sent_tells, told_here, told_else}
use Rattle.conn_send_items.proofs.step.take_next.Goals as goal

pub take_at-item-requires-clause-standing : goal.take_at-item-requires-clause-standing
take_at-item-requires-clause-standing g c =
    let passes = c.args.passes.now in let place = c.in-Some-place_of.place in let channel = c.in-Some.channel in let asked = seen c.next_to_send.new.pass in
    let stood = stands_next (channels_in c.args.cells.now.readers.now) c.args.cells.now.channels.now passes.subpartitions.items (seen passes.readers) asked
    c.requires.cells.channels c.next_to_send.ensures.heads place (c.requires.stand place) channel c.in-Some-place_of.ensures.found.1 in
    stands_some _ (first_after (seen_at place passes.subpartitions.items)) c.in-Some.ensures.can.standing stood

pub tell_sent-sequence-requires-clause-kind : goal.tell_sent-sequence-requires-clause-kind
tell_sent-sequence-requires-clause-kind g c = λ costs.
    let passes = c.args.passes.now in let place = c.in-Some-place_of.place in let channel = c.in-Some.channel in let asked = seen c.next_to_send.new.pass in
    let stood = stands_next (channels_in c.args.cells.now.readers.now) c.args.cells.now.channels.now passes.subpartitions.items (seen passes.readers) asked
    c.requires.cells.channels c.next_to_send.ensures.heads place (c.requires.stand place) channel c.in-Some-place_of.ensures.found.1 in
    let parcel = parcel_of c.take_at-item.result.item in
    costs_told _ parcel c.in-Some.ensures.can.standing (still_stands _ (first_after (seen_at place passes.subpartitions.items)) (Some parcel) stood c.take_at-item.ensures.was) (ap cost (sym c.sent_kind.ensures) ∙ costs)

pub returns-clause-stand : goal.returns-clause-stand
returns-clause-stand g c = λ k.
    let channels = c.args.cells.now.channels.now in let passes = c.args.passes.now in
    let found = c.in-Some-place_of.ensures.found in let head = c.take_at-item.result.front.head in
    let asked = seen c.next_to_send.new.pass in let told = seen c.tell_sent-sequence.new.pass in
    let stay = subst (λ cs. HeadsStay cs (seen passes.readers) asked) c.requires.cells.channels c.next_to_send.ensures.heads in
    let heads = subst (λ cs. HeadsChange cs c.in-Some.channel head asked told) c.requires.cells.channels c.tell_sent-sequence.ensures.heads in
    stands_on channels c.in-Some-place_of.place passes.subpartitions.items c.take_at-item.new.passes.items c.take_at-item.ensures.others c.requires.cells.distinct c.in-Some.channel found.1 head asked told
    heads c.take_at-item.ensures.front k (λ ne. stands_stay channels passes.subpartitions.items (seen passes.readers) asked stay k (c.requires.stand k))

pub returns-clause-some : goal.returns-clause-some
returns-clause-some g c =
    let channels = c.args.cells.now.channels.now in let passes = c.args.passes.now in
    let found = c.in-Some-place_of.ensures.found in let front = c.take_at-item.result.front in
    let same : mine c.next_to_send.new.pass ≡ mine passes.readers = c.next_to_send.ensures.pass.1 in
    sends_one channels c.requires.cells.distinct c.in-Some-place_of.place c.in-Some.channel found.1 passes.subpartitions.items c.take_at-item.new.passes.items
    (mine passes.readers) (mine c.tell_sent-sequence.new.pass) c.tell_sent-sequence.result front.backlog front.backlog front.head c.sent_kind.result c.take_at-item.result.item
    c.take_at-item.ensures.others c.take_at-item.ensures.taken c.sent_kind.ensures
    (c.tell_sent-sequence.ensures.told ∙ ap (λ own. own ++ Sent c.in-Some.channel c.sent_kind.result front.head front.backlog ∷ []) same)
    (c.tell_sent-sequence.ensures.number ∙ ap (λ own. length (sent_on c.in-Some.channel own) % 2 ^ 32) same)

pub returns-clause-backlog : goal.returns-clause-backlog
returns-clause-backlog g c =
    let channels = c.args.cells.now.channels.now in let passes = c.args.passes.now in let place = c.in-Some-place_of.place in let channel = c.in-Some.channel in
    let found = c.in-Some-place_of.ensures.found in let front = c.take_at-item.result.front in
    let own = mine passes.readers in let own_after = mine c.tell_sent-sequence.new.pass in
    let same : mine c.next_to_send.new.pass ≡ own = c.next_to_send.ensures.pass.1 in
    let told = sent_tells channel c.sent_kind.result front.head front.backlog own own_after (c.tell_sent-sequence.ensures.told ∙ ap (λ l. l ++ Sent channel c.sent_kind.result front.head front.backlog ∷ []) same) in
    record {
      here = told_here channels place passes.subpartitions.items c.take_at-item.new.passes.items c.take_at-item.ensures.others c.requires.cells.distinct channel found.1 own own_after front.backlog told c.take_at-item.ensures.backlog;
      others = told_else channels place passes.subpartitions.items c.take_at-item.new.passes.items c.take_at-item.ensures.others c.requires.cells.distinct channel found.1 own own_after front.backlog told;
    }

pub returns-in_default-clause-none : goal.returns-in_default-clause-none
returns-in_default-clause-none g c = let passes = c.args.passes.now in let same = c.next_to_send.ensures.pass.1 in
    sends_told c.args.cells.now.channels.now passes.subpartitions.items (mine passes.readers) (mine c.next_to_send.new.pass) (λ d. ap (sent_on d) same) (λ d. ap (announced_on d) same)

pub returns-in_default-clause-kept : goal.returns-in_default-clause-kept
returns-in_default-clause-kept g c = λ k n was. (λ d at. ap (told_last d) c.next_to_send.ensures.pass.1 ∙ was.0 d at, was.1)

pub returns-clause-took : goal.returns-clause-took
returns-clause-took g c = record { here = c.take_at-item.ensures.taken.taken; others = c.take_at-item.ensures.others }

pub returns-clause-size : goal.returns-clause-size
returns-clause-size g c = c.take_at-item.ensures.size c.args.cells.now.size c.requires.cells.queue_sizes
