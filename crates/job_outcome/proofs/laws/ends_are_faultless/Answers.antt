use Rattle.job_outcome.proofs.laws.ends_are_faultless.Goals as goal

pub returns-clause-out : goal.returns-clause-out
returns-clause-out g c = g.met.O.LinkOut.is_faultless

pub returns-clause-input : goal.returns-clause-input
returns-clause-input g c = g.met.I.LinkIn.is_faultless
