use Rattle.std.proofs.Common.{ap, ◌∙◌}
use Rattle.conn_send_items.specs.Fronts.{front_after, backlog_after}
use Rattle.conn_send_items.proofs.Lent.{none_taken_at, front_stays_at, sender_at, seen_was, own_now, seen_now, others_now}
use Rattle.conn_send_items.proofs.places.look_at.Goals as goal

pub look-requires : goal.look-requires
look-requires g c = sender_at c.args.cells.now c.args.passes.now.items _ c.args.place _ _ c.as_mut_slice.ensures.value c.requires.passes c.requires.within c.index-cells-place.is c.index-as_mut_slice-place.is

pub returns-clause-passes : goal.returns-clause-passes
returns-clause-passes g c = own_now c.args.cells.now c.args.passes.now.items _ c.args.place _ _ c.as_mut_slice.ensures.value c.requires.passes c.requires.within c.index-cells-place.is c.index-as_mut_slice-place.is c.look.new.pass c.look.ensures.pass

pub returns-clause-taken : goal.returns-clause-taken
returns-clause-taken g c =
    let now = seen_now c.args.cells.now c.args.passes.now.items _ c.args.place _ _ c.as_mut_slice.ensures.value c.requires.passes c.requires.within c.index-cells-place.is c.index-as_mut_slice-place.is c.look.new.pass in
    let was = seen_was c.args.cells.now c.args.passes.now.items _ c.args.place _ _ c.as_mut_slice.ensures.value c.requires.passes c.requires.within c.index-cells-place.is c.index-as_mut_slice-place.is in
    none_taken_at _ _ _ _ was now c.look.ensures.taken

pub returns-clause-stays : goal.returns-clause-stays
returns-clause-stays g c =
    let now = seen_now c.args.cells.now c.args.passes.now.items _ c.args.place _ _ c.as_mut_slice.ensures.value c.requires.passes c.requires.within c.index-cells-place.is c.index-as_mut_slice-place.is c.look.new.pass in
    let was = seen_was c.args.cells.now c.args.passes.now.items _ c.args.place _ _ c.as_mut_slice.ensures.value c.requires.passes c.requires.within c.index-cells-place.is c.index-as_mut_slice-place.is in
    front_stays_at _ _ _ _ was now c.look.ensures.stays

pub returns-clause-front : goal.returns-clause-front
returns-clause-front g c =
    let now = seen_now c.args.cells.now c.args.passes.now.items _ c.args.place _ _ c.as_mut_slice.ensures.value c.requires.passes c.requires.within c.index-cells-place.is c.index-as_mut_slice-place.is c.look.new.pass in
    ap front_after now ∙ c.look.ensures.front

pub returns-clause-backlog : goal.returns-clause-backlog
returns-clause-backlog g c =
    let now = seen_now c.args.cells.now c.args.passes.now.items _ c.args.place _ _ c.as_mut_slice.ensures.value c.requires.passes c.requires.within c.index-cells-place.is c.index-as_mut_slice-place.is c.look.new.pass in
    ap backlog_after now ∙ c.look.ensures.backlog

pub returns-clause-others : goal.returns-clause-others
returns-clause-others g c = others_now c.args.cells.now c.args.passes.now.items _ c.args.place _ _ c.as_mut_slice.ensures.value c.requires.passes c.requires.within c.index-cells-place.is c.index-as_mut_slice-place.is c.look.new.pass
