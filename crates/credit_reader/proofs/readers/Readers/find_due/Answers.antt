use Rattle.std.proofs.Common.{◌≡◌, ◌∙◌, ap, subst, sym, Some, None, IfNone, position}
use Rattle.std.proofs.lemmas.List.{get_or_read}
use Rattle.credit_reader.specs.Readers.{is_due}
use Rattle.credit_reader.specs.Answers.{due_first}
use Rattle.credit_reader.specs.Places.{IsFound}
use Rattle.credit_reader.proofs.Queues.{nobody}
use Rattle.credit_reader.proofs.Finding.{find_from_position, find_nowhere, is_found, waits_where_due}
use Rattle.credit_reader.proofs.readers.Readers.find_due.Goals as goal

pub returns-in_err-place-clause-none : goal.returns-in_err-place-clause-none
returns-in_err-place-clause-none c =
    let at : position is_due c.self.inside.all.items ≡ None = ap (position is_due) (sym c.deref.ensures.value) ∙ sym c.in_err-place.ensures in
    subst (λ o. IfNone o (due_first c.args.self.now ≡ None)) (sym c.from_residual.ensures)
    (subst (λ s. due_first s ≡ None) c.self.view_is (find_nowhere is_due c.self.inside.all.items nobody at))

pub returns-clause-found : goal.returns-clause-found
returns-clause-found c =
    let at : position is_due c.self.inside.all.items ≡ Some c.in_ok-place.place = ap (position is_due) (sym c.deref.ensures.value) ∙ sym c.in_ok-place.ensures in
    let found = find_from_position is_due c.self.inside.all.items c.in_ok-place.place nobody at in
    let read = get_or_read c.self.inside.all.items c.in_ok-place.place c.index.result.now found.0 c.index.ensures nobody in
    subst (λ s. IsFound s c.index.result.now.channel (record { place = c.in_ok-place.place; reader = c.index.result.now })) c.self.view_is
    (is_found _ _ _ c.self.invariant c.in_ok-place.place c.index.result.now found.0 (sym read))

pub returns-clause-first : goal.returns-clause-first
returns-clause-first c =
    let at : position is_due c.self.inside.all.items ≡ Some c.in_ok-place.place = ap (position is_due) (sym c.deref.ensures.value) ∙ sym c.in_ok-place.ensures in
    let found = find_from_position is_due c.self.inside.all.items c.in_ok-place.place nobody at in
    let read = get_or_read c.self.inside.all.items c.in_ok-place.place c.index.result.now found.0 c.index.ensures nobody in
    subst (λ s. due_first s ≡ Some c.index.result.now) c.self.view_is (found.1 ∙ ap Some (sym read))

pub returns-clause-waits : goal.returns-clause-waits
returns-clause-waits c =
    let at : position is_due c.self.inside.all.items ≡ Some c.in_ok-place.place = ap (position is_due) (sym c.deref.ensures.value) ∙ sym c.in_ok-place.ensures in
    let found = find_from_position is_due c.self.inside.all.items c.in_ok-place.place nobody at in
    let read = get_or_read c.self.inside.all.items c.in_ok-place.place c.index.result.now found.0 c.index.ensures nobody in
    waits_where_due c.index.result.now (ap is_due read ∙ found.2)
