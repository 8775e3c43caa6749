use Rattle.std.proofs.Common.{ℕ}
use Rattle.input_gate.specs.Segments.{AreUntouched}
use Rattle.input_gate.specs.Channels.{AreLanes, AreQuiet, HaveNoSpare}
use Rattle.input_gate.proofs.rounds.find_line.Given as goal

abbrev pub invariant-loop-turn : goal.invariant-loop-turn
invariant-loop-turn l = record {
  lanes : (size : ℕ) → AreLanes size l.fn.lanes.items → AreLanes size l.lanes.items;
  quiet : AreQuiet l.fn.lanes.items l.lanes.items;
  spare : HaveNoSpare l.lanes.items;
  segments : AreUntouched l.fn.lanes.items l.lanes.items;
}
