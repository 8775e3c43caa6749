use Rattle.std.proofs.Common.{◌≡◌, Some, sym, ap, subst, ◌∙◌}
use Rattle.std.proofs.lemmas.List.Elements.{All-get_or}
use Rattle.turn_cell.specs.Passes.{opened_with}
use Rattle.subpartition.specs.Queues.{HasLength, parcel_of}
use Rattle.subpartition.specs.Theorems.{FirstStays}
use Rattle.conn_send_items.specs.Fronts.{SendCell, first_after, front_after, backlog_after}
use Rattle.conn_send_items.proofs.Lent.{one_taken_at, sender_at, seen_was, own_now, seen_now, others_now}
use Rattle.conn_send_items.proofs.places.take_at.Goals as goal

pub take-requires-clause-pass : goal.take-requires-clause-pass
take-requires-clause-pass g c = sender_at c.args.cells.now c.args.passes.now.items _ c.args.place _ _ c.as_mut_slice.ensures.value c.requires.passes c.requires.within c.index-cells-place.is c.index-as_mut_slice-place.is

pub take-requires-clause-standing : goal.take-requires-clause-standing
take-requires-clause-standing g c = λ none.
    let was = seen_was c.args.cells.now c.args.passes.now.items _ c.args.place _ _ c.as_mut_slice.ensures.value c.requires.passes c.requires.within c.index-cells-place.is c.index-as_mut_slice-place.is in
    c.requires.standing (ap front_after was ∙ none)

pub returns-clause-passes : goal.returns-clause-passes
returns-clause-passes g c = own_now c.args.cells.now c.args.passes.now.items _ c.args.place _ _ c.as_mut_slice.ensures.value c.requires.passes c.requires.within c.index-cells-place.is c.index-as_mut_slice-place.is c.take.new.pass c.take.ensures.pass

pub returns-clause-taken : goal.returns-clause-taken
returns-clause-taken g c =
    let now = seen_now c.args.cells.now c.args.passes.now.items _ c.args.place _ _ c.as_mut_slice.ensures.value c.requires.passes c.requires.within c.index-cells-place.is c.index-as_mut_slice-place.is c.take.new.pass in
    let was = seen_was c.args.cells.now c.args.passes.now.items _ c.args.place _ _ c.as_mut_slice.ensures.value c.requires.passes c.requires.within c.index-cells-place.is c.index-as_mut_slice-place.is in
    one_taken_at _ _ _ _ was now (parcel_of c.take.result.item) c.take.result.front.backlog c.take.ensures.taken

pub returns-clause-was : goal.returns-clause-was
returns-clause-was g c =
    let was = seen_was c.args.cells.now c.args.passes.now.items _ c.args.place _ _ c.as_mut_slice.ensures.value c.requires.passes c.requires.within c.index-cells-place.is c.index-as_mut_slice-place.is in
    subst (λ h. FirstStays (first_after h) (Some (parcel_of c.take.result.item))) (sym was) c.take.ensures.was

pub returns-clause-front : goal.returns-clause-front
returns-clause-front g c =
    let now = seen_now c.args.cells.now c.args.passes.now.items _ c.args.place _ _ c.as_mut_slice.ensures.value c.requires.passes c.requires.within c.index-cells-place.is c.index-as_mut_slice-place.is c.take.new.pass in
    ap front_after now ∙ c.take.ensures.front

pub returns-clause-backlog : goal.returns-clause-backlog
returns-clause-backlog g c =
    let now = seen_now c.args.cells.now c.args.passes.now.items _ c.args.place _ _ c.as_mut_slice.ensures.value c.requires.passes c.requires.within c.index-cells-place.is c.index-as_mut_slice-place.is c.take.new.pass in
    ap backlog_after now ∙ c.take.ensures.backlog

pub returns-clause-others : goal.returns-clause-others
returns-clause-others g c = others_now c.args.cells.now c.args.passes.now.items _ c.args.place _ _ c.as_mut_slice.ensures.value c.requires.passes c.requires.within c.index-cells-place.is c.index-as_mut_slice-place.is c.take.new.pass

pub returns-clause-size : goal.returns-clause-size
returns-clause-size g c = λ size sizes.
    let at : (opened_with c.index-cells-place.result).size ≡ size =
    subst (λ (k : SendCell). (opened_with k).size ≡ size) (sym c.index-cells-place.is) (All-get_or (λ (k : SendCell). (opened_with k).size ≡ size) c.args.cells.now c.args.place _ c.requires.within sizes) in
    subst (λ n. HasLength n c.take.result.item) at c.take.ensures.size
