use Rattle.std.proofs.Common.{◌≡◌, ◌≤◌, true, None, List, []}
use Rattle.turn_cell.specs.Passes.{IsSamePass, seen}
use Rattle.outside.specs.Stops.{first_met}
use Rattle.conn_parts.specs.Messages.{Message}
use Rattle.conn_read_control.specs.Rounds.{FitCells, Gets}
use Rattle.conn_read_control.proofs.rounds.read_frames.Given as goal

abbrev pub invariant-loop-round : goal.invariant-loop-round
invariant-loop-round g l =
    let got = g.I.LinkIn.got in let ended = g.I.LinkIn.ended in let faults = g.I.LinkIn.faults in record {
      passes : FitCells l.cells l.passes;
      stop : IsSamePass l.initial.passes.stop l.passes.stop;
      line : g.I.LinkIn.line l.input ≡ g.I.LinkIn.line l.initial.input;
      ended : ended l.input ≡ ended l.initial.input;
      never_falls : faults l.initial.input ≤ faults l.input;
      calm : l.watch ≡ true → first_met (seen l.passes.stop) ≡ None;
      account : (messages : List Message) × Gets l.cells.channels.now l.cells.size l.initial.passes l.passes (got l.initial.input) (got l.input) [] l.incoming messages;
    }
