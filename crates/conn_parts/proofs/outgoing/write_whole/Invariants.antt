use Rattle.std.proofs.Common.{length, take, ◌-◌, ◌≡◌, ◌≤◌}
use Rattle.outside.specs.Links.{Appended}
use Rattle.conn_parts.proofs.outgoing.write_whole.Given as goal

abbrev pub invariant-loop-from : goal.invariant-loop-from
invariant-loop-from g l = record {
  within : l.from ≤ length l.bytes;
  unfinished : g.O.LinkOut.finished l.out ≡ g.O.LinkOut.finished l.initial.out;
  line : g.O.LinkOut.line l.out ≡ g.O.LinkOut.line l.initial.out;
  sent : Appended (g.O.LinkOut.sent l.initial.out) (g.O.LinkOut.sent l.out) (take l.from l.bytes);
  faults : g.O.LinkOut.faults l.initial.out ≤ g.O.LinkOut.faults l.out;
}

abbrev pub decreases-loop-from : goal.decreases-loop-from
decreases-loop-from g l = length l.bytes - l.from
