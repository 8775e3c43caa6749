use Rattle.std.proofs.Common.{◌≡◌, ◌+◌, ◌≤◌, length, All}
use Rattle.outside.specs.Links.{NeverFails}
use Rattle.job_outcome.specs.Theorems.{IsNewWire}
use Rattle.job_outcome.specs.Words.{link_words}
use Rattle.job_run.proofs.wires.add_wires.Given as goal

abbrev pub invariant-loop-made : goal.invariant-loop-made
invariant-loop-made g l = record {
  unused : All (IsNewWire (link_words g.N.Out.LinkOut g.N.In.LinkIn g.N.Links.belong)) l.wires.items;
  many : length l.wires.items ≡ l._made;
  room : l.many ≤ l.wires.room + l._made;
  lent : g.N.Links.lent l.net ≡ g.N.Links.lent l.fn.net + l._made;
  never_falls : g.N.Links.faults l.fn.net ≤ g.N.Links.faults l.net;
  same : g.N.Links.wires l.net ≡ g.N.Links.wires l.fn.net;
  still_sure : g.N.Links.never_fails l.fn.net → g.N.Links.never_fails l.net;
  sure : g.N.Links.never_fails l.fn.net → All (NeverFails g.N.Out.LinkOut.never_fails g.N.In.LinkIn.never_fails) l.wires.items;
}
