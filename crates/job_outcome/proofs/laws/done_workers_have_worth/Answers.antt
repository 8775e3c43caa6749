use Rattle.job_outcome.proofs.Worth as lemmas
use Rattle.job_outcome.proofs.laws.done_workers_have_worth.Goals as goal

pub returns : goal.returns
returns g c = lemmas.done_workers_have_worth _ c.stored_images_are_collected.ensures.collected c.runs_are_chains.ensures.worth
