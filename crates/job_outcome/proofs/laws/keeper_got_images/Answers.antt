use Rattle.job_outcome.proofs.Chaining as lemmas
use Rattle.job_outcome.proofs.laws.keeper_got_images.Goals as goal

pub returns : goal.returns
returns g c = lemmas.keeper_got_images _
