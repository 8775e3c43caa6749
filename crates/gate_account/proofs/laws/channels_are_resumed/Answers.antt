use Rattle.gate_account.proofs.InStep.{waiting_is_blocked, resumed_is_in_step, all_resumed_is_in_step}
use Rattle.gate_account.proofs.laws.channels_are_resumed.Goals as goal

pub returns : goal.returns
returns c = record { may = waiting_is_blocked; one = resumed_is_in_step; all = all_resumed_is_in_step }
