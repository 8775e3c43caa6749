use Rattle.job_outcome.proofs.Worth as lemmas
use Rattle.job_outcome.proofs.laws.done_collector_has_last.Goals as goal

pub returns : goal.returns
returns g c = lemmas.done_collector_has_last _
