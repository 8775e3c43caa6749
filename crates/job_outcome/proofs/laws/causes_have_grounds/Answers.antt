use Rattle.job_outcome.proofs.Grounds as lemmas
use Rattle.job_outcome.proofs.laws.causes_have_grounds.Goals as goal

pub returns : goal.returns
returns g c = lemmas.causes_have_grounds _ c.stored_images_are_collected.ensures.collected c.runs_are_chains.ensures.chain
