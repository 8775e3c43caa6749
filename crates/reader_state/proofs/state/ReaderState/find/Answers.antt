use Rattle.std.proofs.Common.{◌≡◌, ◌∙◌, ap, subst, sym, Some, None, IfNone, position, get_or}
use Rattle.flow_defs.specs.declared.task.ChannelId.{ChannelId}
use Rattle.std.specs.Prelude.{IsSome}
use Rattle.credit_reader.specs.Senders.{AreDistinct, is_same, reader_of}
use Rattle.credit_reader.specs.Readers.{fresh}
use Rattle.reader_state.specs.declared.state.Early.{Early}
use Rattle.reader_state.specs.Ledgers.{Ledger}
use Rattle.reader_state.specs.Settling.{IsEarlyKept}
use Rattle.reader_state.proofs.Placing.{is_kept, no_reader, no_early, reader_of_kept}
use Rattle.reader_state.proofs.state.ReaderState.find.Goals as goal

pub returns-in_err-place-clause-none : goal.returns-in_err-place-clause-none
returns-in_err-place-clause-none c =
    let p = λ (e : Early). is_same e.channel c.args.channel in
    let at : position p c.self.inside.early.items ≡ None = ap (position p) (sym c.as_slice.ensures) ∙ sym c.in_err-place.ensures in
    subst (λ o. IfNone o (reader_of c.args.channel c.args.self.now.sender.readers ≡ None)) (sym c.from_residual.ensures)
    (subst (λ (l : Ledger). reader_of c.args.channel l.sender.readers ≡ None) c.self.view_is
    (no_reader c.self.inside.early.items c.self.inside.readers.readers c.self.invariant c.args.channel (fresh c.args.channel) at))

pub returns-clause-found : goal.returns-clause-found
returns-clause-found c =
    let p = λ (e : Early). is_same e.channel c.args.channel in
    let at : position p c.self.inside.early.items ≡ Some c.in_ok-place.place = ap (position p) (sym c.as_slice.ensures) ∙ sym c.in_ok-place.ensures in
    let x = get_or c.as_slice-2.result.now c.in_ok-place.place no_early in
    subst (λ (l : Ledger). IsEarlyKept l.early c.args.channel (record { place = c.in_ok-place.place; early = x })) c.self.view_is
    (is_kept c.self.inside.early.items c.self.inside.readers.readers c.self.invariant c.args.channel c.readers_are_in_order.ensures.channels c.in_ok-place.place x at (ap (λ es. get_or es c.in_ok-place.place no_early) c.as_slice-2.ensures))

pub returns-clause-known : goal.returns-clause-known
returns-clause-known c =
    let p = λ (e : Early). is_same e.channel c.args.channel in
    let at : position p c.self.inside.early.items ≡ Some c.in_ok-place.place = ap (position p) (sym c.as_slice.ensures) ∙ sym c.in_ok-place.ensures in
    subst (λ (l : Ledger). IsSome (reader_of c.args.channel l.sender.readers)) c.self.view_is
    (reader_of_kept c.self.inside.early.items c.self.inside.readers.readers c.self.invariant c.args.channel c.in_ok-place.place at)
