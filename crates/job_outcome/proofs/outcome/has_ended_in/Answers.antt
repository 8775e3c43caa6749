use Rattle.conn_parts.proofs.Lists.{get_is}
use Rattle.job_outcome.proofs.outcome.has_ended_in.Goals as goal

pub returns-then-ended_with : goal.returns-then-ended_with
returns-then-ended_with g c = λ is. record {
  at = c.loop-place.place-index;
  place = c.place-item.result;
  stands = get_is c.args.row.now c.loop-place.place-index c.place-item.result c.loop-place-test.true c.place-item.is;
  cause_is = c.ended_with.ensures c.if-ended_with.true;
}
