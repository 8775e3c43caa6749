use Rattle.std.proofs.Common.{◌≡◌, ◌∙◌, ap, subst, sym, Some, None, IfNone, position}
use Rattle.std.proofs.lemmas.List.{get_or_read}
use Rattle.credit_reader.specs.declared.reader.Reader.{Reader}
use Rattle.credit_reader.specs.Senders.{is_same, reader_of}
use Rattle.credit_reader.specs.Places.{seen, IsFound}
use Rattle.credit_reader.proofs.Queues.{nobody}
use Rattle.credit_reader.proofs.Finding.{find_from_position, find_nowhere, is_found}
use Rattle.credit_reader.proofs.readers.Readers.find.Goals as goal
use Rattle.credit_reader.proofs.Channels.{same_channel}

pub returns-in_err-place-clause-none : goal.returns-in_err-place-clause-none
returns-in_err-place-clause-none c =
    let p = λ (r : Reader). is_same r.channel c.args.channel in
    let at : position p c.self.inside.all.items ≡ None = ap (position p) (sym c.deref.ensures.value) ∙ sym c.in_err-place.ensures in
    subst (λ o. IfNone o (reader_of c.args.channel c.args.self.now.readers ≡ None)) (sym c.from_residual.ensures)
    (subst (λ s. reader_of c.args.channel s.readers ≡ None) c.self.view_is (find_nowhere p c.self.inside.all.items nobody at))

pub returns-clause-found : goal.returns-clause-found
returns-clause-found c =
    let p = λ (r : Reader). is_same r.channel c.args.channel in
    let at : position p c.self.inside.all.items ≡ Some c.in_ok-place.place = ap (position p) (sym c.deref.ensures.value) ∙ sym c.in_ok-place.ensures in
    let found = find_from_position p c.self.inside.all.items c.in_ok-place.place nobody at in
    let read = get_or_read c.self.inside.all.items c.in_ok-place.place c.index.result.now found.0 c.index.ensures nobody in
    let channel_is : c.index.result.now.channel ≡ c.args.channel = ap (λ (r : Reader). r.channel) read ∙ same_channel _ _ found.2 in
    subst (λ s. IsFound s c.args.channel (record { place = c.in_ok-place.place; reader = c.index.result.now })) c.self.view_is
    (subst (λ d. IsFound (seen c.self.inside.all.items c.self.inside.able.items) d (record { place = c.in_ok-place.place; reader = c.index.result.now })) channel_is
    (is_found _ _ _ c.self.invariant c.in_ok-place.place c.index.result.now found.0 (sym read)))
