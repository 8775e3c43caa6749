use Rattle.std.proofs.Common.{rules, ◌≡◌, ◌%◌, ◌^◌, Some, length, map, ap, sym, subst, ◌∙◌}
use Rattle.std.specs.Option.{option_map}
use Rattle.std.proofs.lemmas.Option.{same_Some}
use Rattle.turn_cell.specs.History.{entries_of}
use Rattle.turn_cell.specs.Passes.{seen, mine}
use Rattle.credit_reader.specs.Senders.{reader_of}
use Rattle.reader_state.specs.declared.entry.ReaderEntry.TheVariants.{Sent}
use Rattle.reader_state.specs.Ledgers.{Ledger}
use Rattle.reader_state.specs.Standing.{sent_on}
use Rattle.reader_state.specs.Turning.{channels_in, HeadsChange}
use Rattle.reader_state.proofs.Standing.{entered, is_sender, own_is, entered_ledger, may_send, able_there, sent_told, stands_then, legal_is, is_one_of}
use Rattle.reader_state.proofs.Telling.{sent_by}
use Rattle.reader_state.proofs.Numbering.{replayed_number}
use Rattle.reader_state.proofs.turns.tell_sent.Goals as goal

pub sent-number-requires : goal.sent-number-requires
sent-number-requires g c =
    let told = c.enter-turn.ensures in let l = c.state.result.now in let pass = c.enter-turn.result.pass.now in
    let e = entered c.args.cell.now c.enter-turn.result.cell.now c.args.pass.now pass l c.enter-turn.result.state c.requires.pass told.turn.0 told.turn.1 told.pass.0 told.seen told.state.0 told.state.1 c.state.ensures.value in
    may_send c.args.cell.now c.args.pass.now pass l e c.args.channel c.args.what c.args.head c.args.backlog c.requires.can c.requires.kind c.requires.fits

pub leave_sent-requires-clause-state : goal.leave_sent-requires-clause-state
leave_sent-requires-clause-state g c =
    let told = c.enter-turn.ensures in let l = c.state.result.now in let pass = c.enter-turn.result.pass.now in
    let e = entered c.args.cell.now c.enter-turn.result.cell.now c.args.pass.now pass l c.enter-turn.result.state c.requires.pass told.turn.0 told.turn.1 told.pass.0 told.seen told.state.0 told.state.1 c.state.ensures.value in
    stands_then c.args.cell.now c.args.pass.now pass l e c.enter-turn.result.cell.now c.sent-number.new.self (Sent c.args.channel c.args.what c.args.head c.args.backlog) told.turn.1 (is_sender c.args.cell.now c.args.pass.now pass l e)
    (may_send c.args.cell.now c.args.pass.now pass l e c.args.channel c.args.what c.args.head c.args.backlog c.requires.can c.requires.kind c.requires.fits) c.sent-number.ensures.sent

pub returns-clause-number : goal.returns-clause-number
returns-clause-number g c =
    let told = c.enter-turn.ensures in let l = c.state.result.now in let pass = c.enter-turn.result.pass.now in
    let e = entered c.args.cell.now c.enter-turn.result.cell.now c.args.pass.now pass l c.enter-turn.result.state c.requires.pass told.turn.0 told.turn.1 told.pass.0 told.seen told.state.0 told.state.1 c.state.ensures.value in
    let channels = channels_in c.args.cell.now in
    let there = able_there c.args.cell.now c.args.pass.now pass l e c.args.channel c.requires.can in
    let one = is_one_of l channels (seen pass) e.stands e.fixed c.args.channel there.0 there.1 in
    let counts = replayed_number c.args.channel channels (entries_of (seen pass)) one in
    let own : sent_on c.args.channel (entries_of (seen pass)) ≡ sent_on c.args.channel (mine c.args.pass.now) =
    sent_by channels (seen pass) c.args.channel (legal_is l channels (seen pass) e.stands e.fixed) ∙ ap (sent_on c.args.channel) (own_is c.args.cell.now c.args.pass.now pass l e) in
    let number : c.sent-number.result ≡ length (sent_on c.args.channel (mine c.args.pass.now)) % 2 ^ 32 =
    same_Some _ _ (sym c.sent-number.ensures.number ∙ ap (λ (k : Ledger). option_map (λ r. r.sequence) (reader_of c.args.channel k.sender.readers)) (entered_ledger c.args.cell.now c.args.pass.now pass l e) ∙ counts)
    ∙ ap (λ ks. length ks % 2 ^ 32) own in
    search (rules, number)

pub returns-clause-heads : goal.returns-clause-heads
returns-clause-heads g c =
    let told = c.enter-turn.ensures in let l = c.state.result.now in let pass = c.enter-turn.result.pass.now in
    let e = entered c.args.cell.now c.enter-turn.result.cell.now c.args.pass.now pass l c.enter-turn.result.state c.requires.pass told.turn.0 told.turn.1 told.pass.0 told.seen told.state.0 told.state.1 c.state.ensures.value in
    let there = able_there c.args.cell.now c.args.pass.now pass l e c.args.channel c.requires.can in
    let heads : HeadsChange (channels_in c.args.cell.now) c.args.channel c.args.head (seen c.args.pass.now) (seen c.leave_sent.new.turn.1.0) =
    sent_told c.args.cell.now c.args.pass.now pass l e c.args.channel c.args.what c.args.head c.args.backlog c.leave_sent.new.turn.1.0 there.0 there.1 c.leave_sent.ensures.entered in
    search (rules, heads)
