use Rattle.std.proofs.Common.{refl}
use Rattle.job_outcome.proofs.outcome.outcome_of.Goals as goal

pub returns-then-is_done-clause-done : goal.returns-then-is_done-clause-done
returns-then-is_done-clause-done g c = (
  (λ is. record {
    by_tasks = c.all_done.ensures.0 c.if-all_done.true;
    by_loops = c.all_done-then-all_done.ensures.0 c.if-all_done-2.true;
    by_collector = c.is_done.ensures.0 c.if-is_done.true;
  }),
  (λ all. refl),
)
