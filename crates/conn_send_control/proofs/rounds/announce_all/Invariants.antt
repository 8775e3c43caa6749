use Rattle.std.proofs.Common.{◌≡◌, ◌≤◌, length}
use Rattle.conn_parts.specs.Shares.{AreOwn}
use Rattle.conn_send_control.specs.Taking.{HaveEnded}
use Rattle.conn_send_control.proofs.Steps.{WentWell}
use Rattle.conn_send_control.proofs.rounds.announce_all.Given as goal

abbrev pub invariant-loop-at : goal.invariant-loop-at
invariant-loop-at g l = record {
  own : AreOwn 2 l.cells l.passes.items;
  unfinished : g.O.LinkOut.finished l.out ≡ g.O.LinkOut.finished l.initial.out;
  line : g.O.LinkOut.line l.out ≡ g.O.LinkOut.line l.initial.out;
  never_falls : g.O.LinkOut.faults l.initial.out ≤ g.O.LinkOut.faults l.out;
  many : length l.ended.items ≡ length l.channels;
  ended : HaveEnded l.ended.items l.passes.items;
  account : WentWell l.channels l.initial.passes.items l.passes.items (g.O.LinkOut.sent l.initial.out) (g.O.LinkOut.sent l.out) l.initial.outgoing l.outgoing;
}
