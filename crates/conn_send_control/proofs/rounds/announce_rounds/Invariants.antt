use Rattle.std.proofs.Common.{◌≡◌, ◌≤◌, true, None, [], length}
use Rattle.turn_cell.specs.Passes.{IsPassOf, IsSamePass, seen}
use Rattle.outside.specs.Stops.{first_met}
use Rattle.conn_parts.specs.Shares.{AreOwn}
use Rattle.conn_send_control.specs.Taking.{HaveEnded}
use Rattle.conn_send_control.proofs.Steps.{WentWell}
use Rattle.conn_send_control.proofs.rounds.announce_rounds.Given as goal

abbrev pub invariant-loop-round : goal.invariant-loop-round
invariant-loop-round g l = record {
  own : AreOwn 2 l.cells l.passes.items;
  unfinished : g.O.LinkOut.finished l.out ≡ g.O.LinkOut.finished l.initial.out;
  line : g.O.LinkOut.line l.out ≡ g.O.LinkOut.line l.initial.out;
  never_falls : g.O.LinkOut.faults l.initial.out ≤ g.O.LinkOut.faults l.out;
  many : length l.ended.items ≡ length l.channels;
  ended : HaveEnded l.ended.items l.passes.items;
  stop : IsPassOf l.stop l.stop_pass;
  same : IsSamePass l.initial.stop_pass l.stop_pass;
  calm : l.watch ≡ true → first_met (seen l.stop_pass) ≡ None;
  empty : l.outgoing ≡ [];
  account : WentWell l.channels l.initial.passes.items l.passes.items (g.O.LinkOut.sent l.initial.out) (g.O.LinkOut.sent l.out) [] l.outgoing;
}
