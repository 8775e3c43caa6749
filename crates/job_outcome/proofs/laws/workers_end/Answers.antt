use Rattle.job_outcome.proofs.Ending as lemmas
use Rattle.job_outcome.proofs.laws.workers_end.Goals as goal

pub returns : goal.returns
returns g c = lemmas.all_workers_end _ c.items_arrive.ensures
