use Rattle.gate_account.proofs.InStep.{new_are_in_step, nothing_is_in_step, line_is_in_step, next_is_in_turn, block_is_in_step, close_is_in_step}
use Rattle.gate_account.proofs.laws.gates_are_in_step.Goals as goal

pub returns : goal.returns
returns c = record { begin = new_are_in_step; nothing = nothing_is_in_step; line = line_is_in_step; turn = next_is_in_turn; blocks = block_is_in_step; closes = close_is_in_step }
