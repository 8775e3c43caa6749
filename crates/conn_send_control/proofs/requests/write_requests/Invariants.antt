use Rattle.std.proofs.Common.{◌≡◌, ◌≤◌, take}
use Rattle.net_frames.specs.Frames.{all_spelled}
use Rattle.conn_parts.specs.Messages.{requests_of}
use Rattle.conn_send_control.specs.Going.{LieStill}
use Rattle.conn_send_control.proofs.requests.write_requests.Given as goal

abbrev pub invariant-loop-channel : goal.invariant-loop-channel
invariant-loop-channel g l = record {
  unfinished : g.O.LinkOut.finished l.out ≡ g.O.LinkOut.finished l.initial.out;
  line : g.O.LinkOut.line l.out ≡ g.O.LinkOut.line l.initial.out;
  never_falls : g.O.LinkOut.faults l.initial.out ≤ g.O.LinkOut.faults l.out;
  lies : LieStill (g.O.LinkOut.sent l.initial.out) (g.O.LinkOut.sent l.out) (all_spelled (requests_of (take l.channel-index l.channels))) l.outgoing;
}
