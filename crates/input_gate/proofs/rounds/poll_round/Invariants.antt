use Rattle.std.proofs.Common.{◌≡◌}
use Rattle.input_gate.specs.Lanes.{IsLender, lent_size}
use Rattle.input_gate.specs.Segments.{AllStayEven}
use Rattle.input_gate.specs.Channels.{AreLanes, AreQuiet, HaveNoSpare}
use Rattle.input_gate.proofs.rounds.poll_round.Given as goal

abbrev pub invariant-loop-turn : goal.invariant-loop-turn
invariant-loop-turn g l = record {
  lanes : AreLanes (lent_size l.fn.lender) l.lanes.items;
  quiet : AreQuiet l.fn.lanes.items l.lanes.items;
  lender : IsLender l.lender;
  same : l.lender.cell ≡ l.fn.lender.cell;
  spare : HaveNoSpare l.lanes.items;
  segments : AllStayEven l.fn.lender l.fn.lanes.items l.lender l.lanes.items;
}
