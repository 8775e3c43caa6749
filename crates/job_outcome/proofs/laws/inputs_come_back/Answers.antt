use Rattle.job_outcome.proofs.Grounds as lemmas
use Rattle.job_outcome.proofs.laws.inputs_come_back.Goals as goal

pub returns : goal.returns
returns g c = lemmas.inputs_come_back _
