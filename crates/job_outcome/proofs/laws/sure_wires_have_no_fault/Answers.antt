use Rattle.job_outcome.proofs.Sureness as lemmas
use Rattle.job_outcome.proofs.laws.sure_wires_have_no_fault.Goals as goal

pub returns : goal.returns
returns g c = lemmas.sure_wires_have_no_fault _ _ _ c.ends_are_faultless.ensures.out c.ends_are_faultless.ensures.input
