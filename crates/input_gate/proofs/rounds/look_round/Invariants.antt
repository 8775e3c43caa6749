use Rattle.std.proofs.Common.{◌<◌, ◌≤◌, ℕ, length}
use Rattle.input_gate.specs.Segments.{AreUntouched}
use Rattle.input_gate.specs.Channels.{AreLanes, AreQuiet, HaveNoSpare, HasLooked, account_of}
use Rattle.input_gate.proofs.rounds.look_round.Given as goal

abbrev pub invariant-loop-i : goal.invariant-loop-i
invariant-loop-i g l = record {
  within : l.i ≤ length l.fn.lanes.items;
  lanes : (size : ℕ) → AreLanes size l.fn.lanes.items → AreLanes size l.lanes.items;
  quiet : AreQuiet l.fn.lanes.items l.lanes.items;
  spare : HaveNoSpare l.lanes.items;
  below : (d : ℕ) → d < l.i → HasLooked l.hold (account_of l.fn.lanes.items) l.fn.lanes.items l.lanes.items d;
  segments : AreUntouched l.fn.lanes.items l.lanes.items;
}
