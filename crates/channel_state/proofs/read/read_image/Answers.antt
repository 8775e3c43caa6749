use Rattle.channel_state.proofs.AcceptLemmas.{no_fault}
use Rattle.channel_state.proofs.read.read_image.Goals as goal

pub returns-in-Err-clause-accepted : goal.returns-in-Err-clause-accepted
returns-in-Err-clause-accepted c = no_fault

pub returns-in-Ok-clause-accepted : goal.returns-in-Ok-clause-accepted
returns-in-Ok-clause-accepted c = no_fault

pub returns-in-Err-build-clause-accepted : goal.returns-in-Err-build-clause-accepted
returns-in-Err-build-clause-accepted c = no_fault
