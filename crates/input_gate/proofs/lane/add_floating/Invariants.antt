use Rattle.std.proofs.Common.{◌≡◌}
use Rattle.input_gate.specs.Segments.{StaysEven}
use Rattle.input_gate.specs.Turning.{IsGatePass}
use Rattle.input_gate.specs.Lanes.{IsLender, IsIdle}
use Rattle.input_gate.proofs.lane.add_floating.Given as goal

abbrev pub invariant-loop-want : goal.invariant-loop-want
invariant-loop-want g l = record {
  pass : IsGatePass l.cell l.pass;
  idle : IsIdle l.fn.pass l.pass;
  lender : IsLender l.lender;
  same : l.lender.cell ≡ l.fn.lender.cell;
  segments : StaysEven l.fn.lender l.fn.pass l.lender l.pass;
}
