use Rattle.std.proofs.Common.{◌≡◌, true}
use Rattle.turn_cell.specs.Passes.{IsPassOf, IsSamePass}
use Rattle.input_gate.specs.Lanes.{IsLender, lent_size}
use Rattle.input_gate.specs.Segments.{AllStayEven}
use Rattle.input_gate.specs.Channels.{AreLanes, AreQuiet, HaveNoSpare, IsMost, account_of}
use Rattle.input_gate.proofs.cell_gate.next_of.Given as goal

abbrev pub invariant-loop-round : goal.invariant-loop-round
invariant-loop-round g l = record {
  lanes : AreLanes (lent_size l.fn.lender) l.lanes.items;
  quiet : AreQuiet l.fn.lanes.items l.lanes.items;
  spare : HaveNoSpare l.lanes.items;
  lender : IsLender l.lender;
  same : l.lender.cell ≡ l.fn.lender.cell;
  most : l.hold ≡ true → IsMost (account_of l.lanes.items) l.most;
  stop : IsPassOf l.stop l.stop_pass;
  pass : IsSamePass l.fn.stop_pass l.stop_pass;
  segments : AllStayEven l.fn.lender l.fn.lanes.items l.lender l.lanes.items;
}
