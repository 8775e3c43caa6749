use Rattle.std.proofs.Common.{◌≤◌, length}
use Rattle.input_gate.proofs.RoundLaws.{OverBelow}
use Rattle.input_gate.proofs.rounds.all_over.Given as goal

abbrev pub invariant-loop-i : goal.invariant-loop-i
invariant-loop-i l = record { within : l.i ≤ length l.lanes.items; over : OverBelow l.i l.lanes.items }
