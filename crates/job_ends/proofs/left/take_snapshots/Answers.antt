use Rattle.std.proofs.Common.{ap}
use Rattle.job_ends.specs.Ended.{TaskPlace, left_in}
use Rattle.job_ends.proofs.left.take_snapshots.Goals as goal

pub returns : goal.returns
returns g c = record {
  without = record {
    left = c.take_left-left.result;
    was = c.take_left-left.ensures.was;
    now = ap (λ (p : TaskPlace _). left_in p) c.put_left.ensures;
  };
  had = c.in-Some.is;
}
