use Rattle.std.proofs.Common.{◌≡◌, [], map, ap, sym, subst, ◌∙◌}
use Rattle.credit_reader.specs.Senders.{Sender, sender_of}
use Rattle.reader_state.specs.declared.state.Early.{Early}
use Rattle.reader_state.specs.Standing.{LedgerStandsFor}
use Rattle.reader_state.proofs.Opening.{fresh_names, early_names, opened_stands}
use Rattle.reader_state.proofs.state.ReaderState.new.Goals as goal

pub invariant_of-result : goal.invariant_of-result
invariant_of-result c =
    let channels = c.args.channels.now in
    ap (map (λ (e : Early). e.channel)) c.in_ok-early.ensures ∙ early_names channels ∙ sym (ap (λ (s : Sender). map (λ r. r.channel) s.readers) c.in_ok-readers.ensures ∙ fresh_names channels)

pub returns-clause-stands : goal.returns-clause-stands
returns-clause-stands c =
    subst (λ s. LedgerStandsFor (record { sender = s; early = c.in_ok-early.early.items }) []) (sym c.in_ok-readers.ensures)
    (subst (λ es. LedgerStandsFor (record { sender = sender_of c.args.channels.now; early = es }) []) (sym c.in_ok-early.ensures) (opened_stands c.args.channels.now))
