use Rattle.std.proofs.Common.{◌≡◌, ◌+◌, ◌≤◌, length}
use Rattle.job_run.proofs.wires.give_back.Given as goal

abbrev pub invariant-wires : goal.invariant-wires
invariant-wires g l = record {
  enough : length l.rest.items ≤ g.N.Links.lent l.net;
  lent : g.N.Links.lent l.net + length l.fn.wires.items ≡ g.N.Links.lent l.fn.net + length l.rest.items;
  never_falls : g.N.Links.faults l.fn.net ≤ g.N.Links.faults l.net;
}

abbrev pub decreases-wires : goal.decreases-wires
decreases-wires g l = length l.rest.items
