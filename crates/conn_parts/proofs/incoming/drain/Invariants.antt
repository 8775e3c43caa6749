use Rattle.std.proofs.Common.{◌≤◌, ◌≡◌}
use Rattle.conn_parts.specs.Coming.{Came}
use Rattle.conn_parts.proofs.incoming.drain.Given as goal

abbrev pub invariant-loop-read : goal.invariant-loop-read
invariant-loop-read g l = record {
  came : Came (g.I.LinkIn.got l.initial.input) (g.I.LinkIn.got l.input);
  same : g.I.LinkIn.ended l.input ≡ g.I.LinkIn.ended l.initial.input;
  line : g.I.LinkIn.line l.input ≡ g.I.LinkIn.line l.initial.input;
  faults : g.I.LinkIn.faults l.initial.input ≤ g.I.LinkIn.faults l.input;
}
