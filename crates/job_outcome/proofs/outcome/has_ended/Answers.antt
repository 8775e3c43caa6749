use Rattle.std.proofs.Common.{◌≡◌, Some, List, slice_get, subst}
use Rattle.conn_parts.proofs.Lists.{get_is}
use Rattle.job_outcome.proofs.outcome.has_ended.Goals as goal

pub returns-then-has_ended_in : goal.returns-then-has_ended_in
returns-then-has_ended_in g c = λ is.
    let one = c.has_ended_in.ensures c.if-has_ended_in.true in
    record {
      row = c.loop-row.row-index;
      at = one.at;
      place = one.place;
      stands = record {
        row = c.row-item.result;
        row_is = get_is c.args.rows.now c.loop-row.row-index c.row-item.result c.loop-row-test.true c.row-item.is;
        place_is = subst (λ (xs : List g.row.P.Denot). slice_get xs one.at ≡ Some one.place) c.as_slice.ensures one.stands;
      };
      cause_is = one.cause_is;
    }
