use Rattle.std.proofs.Common.{inl, inr, suc, [], length, length-set, sym, ap, subst, ◌∙◌, arith}
use Rattle.std.specs.Prelude.{slice_get}
use Rattle.std.proofs.lemmas.Bool.{cases_eq}
use Rattle.turn_cell.specs.Passes.{mine, seen}
use Rattle.conn_send_items.specs.Fronts.{StandsAt}
use Rattle.conn_send_items.proofs.Standing.{there}
use Rattle.conn_send_items.proofs.Saying.{sends_more}
use Rattle.conn_send_items.proofs.Noting.{noted_first}
use Rattle.conn_send_items.proofs.ready.tell_fronts.Goals as goal
use Rattle.flow_defs.proofs.Lists.{refilled_set}

pub loop-place-preserved : goal.loop-place-preserved
loop-place-preserved g c = let i = c.loop-place.invariant in let channels = c.args.cells.now.channels.now in let now = c.tell_front.new.passes in record {
  passes = c.tell_front.ensures.passes;
  told = ap length (refilled_set c.loop-place.told.items _ c.loop-place.place _ c.as_mut_slice.ensures.value) ∙ length-set c.loop-place.told.items c.loop-place.place _ ∙ i.told;
  pools = c.tell_front.ensures.pools ∙ i.pools;
  quiet = sends_more channels _ c.loop-place.passes.subpartitions.items _ _ (mine c.loop-place.passes.readers) _ [] [] i.quiet c.tell_front.ensures.quiet;
  noted = λ k f within at. noted_first c.args.cells.now c.loop-place.passes now c.loop-place.told.items c.loop-place.place c.tell_front.result c.tell_front.ensures.backlog (suc c.loop-place.place)
      (λ j h less ne at_j. i.noted j h (omega (arith, less, ne)) at_j) k f (omega (arith, within)) (ap (λ fs. slice_get fs k) (sym (refilled_set c.loop-place.told.items _ c.loop-place.place _ c.as_mut_slice.ensures.value)) ∙ at);
  stand = λ k within. elim (cases_eq k c.loop-place.place) [
    | inl is ↦ subst (StandsAt channels (seen now.readers) now.subpartitions.items) (sym is) c.tell_front.ensures.here
    | inr ne ↦ c.tell_front.ensures.stays k (i.stand k (omega (arith, within)))
  ];
}

pub returns-clause-stand : goal.returns-clause-stand
returns-clause-stand g c = λ k d at. let here = there c.args.cells.now.channels.now k d at in
    c.loop-place.invariant.stand k (omega (arith, here.0, c.loop-place-test.false)) d at

pub returns-clause-told : goal.returns-clause-told
returns-clause-told g c = let i = c.loop-place.invariant in record {
  many = i.told;
  each = λ k f at. let here = there c.loop-place.told.items k f at in i.noted k f (omega (arith, here.0, i.told, c.loop-place-test.false)) at;
}
