use Rattle.std.proofs.Common.{◌≡◌, ◌≤◌, length}
use Rattle.input_gate.specs.Lanes.{IsLender, lent_size}
use Rattle.input_gate.specs.Segments.{AllStayEven}
use Rattle.input_gate.specs.Channels.{AreLanes, AreQuiet, HaveNoSpareBelow}
use Rattle.input_gate.proofs.rounds.refill_all.Given as goal

abbrev pub invariant-loop-i : goal.invariant-loop-i
invariant-loop-i g l = record {
  within : l.i ≤ length l.fn.lanes.items;
  lanes : AreLanes (lent_size l.fn.lender) l.lanes.items;
  quiet : AreQuiet l.fn.lanes.items l.lanes.items;
  lender : IsLender l.lender;
  same : l.lender.cell ≡ l.fn.lender.cell;
  spare : HaveNoSpareBelow l.i l.lanes.items;
  segments : AllStayEven l.fn.lender l.fn.lanes.items l.lender l.lanes.items;
}
