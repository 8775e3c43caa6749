use Rattle.job_outcome.proofs.Chaining as lemmas
use Rattle.job_outcome.proofs.laws.stored_images_are_chain.Goals as goal

pub returns : goal.returns
returns g c = lemmas.stored_images_are_chain _ c.stored_images_are_collected.ensures.collected c.runs_are_chains.ensures.chain
