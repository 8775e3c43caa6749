use Rattle.std.proofs.Common.{◌≡◌, true, false, not, refl, ap, subst, sym, ◌∙◌, ◌&&◌}
use Rattle.std.specs.Option.{option_map_or}
use Rattle.std.proofs.lemmas.Bool.{false≢true, and_parts}
use Rattle.credit_reader.specs.declared.reader.Reader.{Reader}
use Rattle.credit_reader.specs.Readers.{may_go}
use Rattle.credit_reader.specs.Senders.{Sender, has_sent, reader_of}
use Rattle.reader_state.specs.Ledgers.{Ledger, ended_by, with_early, settled, is_requested, MayEnter}
use Rattle.reader_state.specs.declared.entry.ReaderEntry.TheVariants.{Sent}
use Rattle.reader_state.specs.Settling.{IsEarlyKept}
use Rattle.reader_state.proofs.Ledgers.{names_sent, asked_sent}
use Rattle.reader_state.proofs.Calling.{goes_on}
use Rattle.reader_state.proofs.state.ReaderState.sent.Goals as goal

pub invariant_of-self : goal.invariant_of-self
invariant_of-self c = c.self.invariant ∙ sym (names_sent c.args.channel c.args.what c.args.head c.args.backlog c.self.inside.readers c.sent-number.new.self c.sent-number.ensures.sent)

pub unreachable-requires-in-Err : goal.unreachable-requires-in-Err
unreachable-requires-in-Err c =
    let channel = c.args.channel in let s = c.self.inside.readers in
    let may = subst (λ (l : Ledger). MayEnter l (Sent channel c.args.what c.args.head c.args.backlog)) (sym c.self.view_is) c.requires in
    let first = c.readers_are_in_order.ensures.first channel may.0 in
    let asked : option_map_or (λ r. r.requested) (reader_of channel s.readers) false ≡ true =
    ap (λ o. option_map_or (λ (r : Reader). r.requested) o false) first.1 ∙ (and_parts first.0.requested (not first.0.blocked) (and_parts (first.0.requested && not first.0.blocked) (may_go first.0.head first.0.credit) first.2.can).0).0 in
    let still : option_map_or (λ r. r.requested) (reader_of channel c.sent-number.new.self.readers) false ≡ true = asked_sent channel c.args.what c.args.head c.args.backlog s c.sent-number.new.self c.sent-number.ensures.sent ∙ asked in
    let here : c.after_sent.result.channel ≡ channel = ap (λ e. e.channel) c.after_sent.ensures ∙ c.in-Some.ensures.found.channel_is in
    let no : option_map_or (λ r. r.requested) (reader_of channel c.sent-number.new.self.readers) false ≡ false =
    ap (λ d. option_map_or (λ (r : Reader). r.requested) (reader_of d c.sent-number.new.self.readers) false) (sym here) ∙ c.in-Err.ensures.err.1 in
    false≢true (sym no ∙ still)

pub returns-clause-sent : goal.returns-clause-sent
returns-clause-sent c =
    let channel = c.args.channel in let es = c.self.inside.early.items in
    let kept : IsEarlyKept es channel c.in-Some.kept = subst (λ (l : Ledger). IsEarlyKept l.early channel c.in-Some.kept) (sym c.self.view_is) c.in-Some.ensures.found in
    let now : Ledger = record { sender = c.sent-number.new.self; early = es } in
    c.in-Ok.ensures.ok
    ∙ goes_on channel c.in-Some.kept (ended_by c.args.what) (λ e. refl) now kept c.after_sent.result c.after_sent.ensures
    ∙ ap (λ s. settled channel (with_early channel (ended_by c.args.what) (record { sender = s; early = es }))) c.sent-number.ensures.sent
    ∙ ap (λ (l : Ledger). settled channel (with_early channel (ended_by c.args.what) (record { sender = has_sent channel c.args.what c.args.head c.args.backlog l.sender; early = l.early }))) c.self.view_is
