use Rattle.job_text.proofs.WordLemmas.{no_fault, one_command, run_range}
use Rattle.job_text.proofs.laws.words_are_clear.Goals as goal

pub returns-clause-no_fault : goal.returns-clause-no_fault
returns-clause-no_fault c = no_fault

pub returns-clause-one : goal.returns-clause-one
returns-clause-one c = one_command

pub returns-clause-ranges : goal.returns-clause-ranges
returns-clause-ranges c = run_range
