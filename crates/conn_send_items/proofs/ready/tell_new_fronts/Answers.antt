use Rattle.std.proofs.Common.{◌<◌, [], length, sym, subst, ◌∙◌, arith}
use Rattle.turn_cell.specs.Passes.{mine}
use Rattle.conn_send_items.specs.Steps.{AreNoted}
use Rattle.conn_send_items.proofs.Saying.{sends_more}
use Rattle.conn_send_items.proofs.Noting.{noted_at, noted_set}
use Rattle.conn_send_items.proofs.ready.tell_new_fronts.Goals as goal
use Rattle.flow_defs.proofs.Lists.{refilled_set}

pub tell_new_front-requires-clause-last : goal.tell_new_front-requires-clause-last
tell_new_front-requires-clause-last g c = let told = c.loop-place.told.items in
    noted_at c.args.cells.now c.loop-place.passes told _ c.as_slice.ensures c.loop-place.invariant.told c.loop-place.place _
    (subst (λ l. c.loop-place.place < length l) (sym c.as_slice.ensures) (omega (arith, c.loop-place.invariant.told.many)))

pub loop-place-preserved : goal.loop-place-preserved
loop-place-preserved g c = let i = c.loop-place.invariant in let cells = c.args.cells.now in let now = c.tell_new_front.new.passes in let told = c.loop-place.told.items in record {
  passes = c.tell_new_front.ensures.passes;
  told = subst (AreNoted cells now) (sym (refilled_set told _ c.loop-place.place _ c.as_mut_slice.ensures.value))
      (noted_set cells c.loop-place.passes now told c.loop-place.place c.tell_new_front.result c.tell_new_front.ensures.backlog i.told);
  pools = c.tell_new_front.ensures.pools ∙ i.pools;
  quiet = sends_more cells.channels.now _ c.loop-place.passes.subpartitions.items _ _ (mine c.loop-place.passes.readers) _ [] [] i.quiet c.tell_new_front.ensures.quiet;
  stand = λ k. c.tell_new_front.ensures.stays k (i.stand k);
}
