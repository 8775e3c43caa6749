use Rattle.std.proofs.Common.{◌≡◌, ◌∙◌, ap, subst, sym, Some, IfNone, false, arith, ◌<◌, length}
use Rattle.std.specs.Prelude.{All, slice_get}
use Rattle.std.proofs.lemmas.List.{get_or_read}
use Rattle.credit_reader.specs.Readers.{can_send}
use Rattle.credit_reader.specs.Places.{IsFound}
use Rattle.credit_reader.proofs.Queues.{nobody, at_front, none_can_send}
use Rattle.credit_reader.proofs.Finding.{is_found}
use Rattle.credit_reader.proofs.readers.Readers.first.Goals as goal

pub index-requires : goal.index-requires
index-requires c =
    let front = at_front _ _ _ c.self.invariant _ (sym c.in_ok-place.ensures) in
    let within : c.in_ok-place.field-0.now < length c.self.inside.all.items = front.0 in
    omega (arith, within)

pub returns-clause-found : goal.returns-clause-found
returns-clause-found c =
    let front = at_front _ _ _ c.self.invariant _ (sym c.in_ok-place.ensures) in
    let read = get_or_read c.self.inside.all.items c.in_ok-place.field-0.now _ front.0 c.index.ensures nobody in
    subst (λ s. IsFound s c.index.result.now.channel (record { place = c.in_ok-place.field-0.now; reader = c.index.result.now })) c.self.view_is
    (is_found _ _ _ c.self.invariant c.in_ok-place.field-0.now c.index.result.now front.0 (sym read))

pub returns-clause-first : goal.returns-clause-first
returns-clause-first c =
    let front = at_front _ _ _ c.self.invariant _ (sym c.in_ok-place.ensures) in
    let read = get_or_read c.self.inside.all.items c.in_ok-place.field-0.now _ front.0 c.index.ensures nobody in
    subst (λ s. slice_get s.queue 0 ≡ Some c.index.result.now.channel) c.self.view_is (front.2 ∙ ap (λ r. Some r.channel) (sym read))

pub returns-clause-can : goal.returns-clause-can
returns-clause-can c =
    let front = at_front _ _ _ c.self.invariant _ (sym c.in_ok-place.ensures) in
    let read = get_or_read c.self.inside.all.items c.in_ok-place.field-0.now _ front.0 c.index.ensures nobody in
    ap can_send read ∙ front.1

pub returns-in_err-place-clause-nobody : goal.returns-in_err-place-clause-nobody
returns-in_err-place-clause-nobody c =
    subst (λ o. IfNone o (All (λ r. can_send r ≡ false) c.args.self.now.readers)) (sym c.from_residual.ensures)
    (subst (λ s. All (λ r. can_send r ≡ false) s.readers) c.self.view_is (none_can_send _ _ _ c.self.invariant (sym c.in_err-place.ensures)))
