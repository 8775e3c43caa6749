use Rattle.std.proofs.Common.{◌≡◌, ◌<◌, [], ◌∷◌, refl, sym, subst, ◌∙◌, arith}
use Rattle.turn_cell.specs.Passes.{opened_with}
use Rattle.segment_pool.specs.Pools.{size_of}
use Rattle.local_pool.specs.Helds.{pool_of}
use Rattle.conn_parts.specs.Shares.{AreOf, AreOwn}
use Rattle.conn_send_items.specs.Fronts.{SendCell}
use Rattle.loops_tests.proofs.Alone.{all_one, of_one, own_one}
use Rattle.loops_tests.proofs.conn_send_items_tests.run.Goals as goal

pub fill-requires-clause-givers : goal.fill-requires-clause-givers
fill-requires-clause-givers g c = let made = c.in_ok-pool_cell in subst (AreOf (made.pool_cell ∷ [])) (sym c.in_ok-givers.ensures) (of_one made.pool_cell made.giver made.ensures.pass)

pub send_items-ended-requires-clause-share : goal.send_items-ended-requires-clause-share
send_items-ended-requires-clause-share g c = let readers = c.in_ok-readers in let sub = c.in_ok-cell in let pool = c.in_ok-pool_cell in record {
  channels = readers.ensures.channels;
  distinct = λ i j d less within. absurd (omega arith);
  places = refl;
  reader_pass = readers.writer;
  readers = refl;
  reader_is = readers.ensures.writer.0;
  new = readers.ensures.writer.1;
  subpartitions = subst (AreOwn 1 (sub.cell ∷ [])) (sym c.in_ok-takers.ensures) (own_one 1 sub.cell sub.sender sub.ensures.sender.0 sub.ensures.sender.1);
  queue_sizes = all_one (λ (cell : SendCell). (opened_with cell).size ≡ 64) sub.cell sub.ensures.size;
  pools = c.fill.ensures.givers;
  sizes = all_one (λ cell. size_of (pool_of (opened_with cell)) ≡ 64) pool.pool_cell (pool.ensures.size ∙ c.requires.pool.1);
  senders = all_one (λ d. d.from < 1) _ (omega arith);
  stop = c.in_ok-stop.ensures.first.0;
}
