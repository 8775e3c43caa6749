use Rattle.std.proofs.Common.{◌≤◌, length}
use Rattle.input_gate.proofs.RoundLaws.{MostBelow, Reached}
use Rattle.input_gate.proofs.rounds.most_given.Given as goal

abbrev pub invariant-loop-i : goal.invariant-loop-i
invariant-loop-i l = record { within : l.i ≤ length l.lanes.items; below : MostBelow l.i l.lanes.items l.most; reached : Reached l.lanes.items l.most }
