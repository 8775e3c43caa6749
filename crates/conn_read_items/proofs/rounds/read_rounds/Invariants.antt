use Rattle.std.proofs.Common.{◌≡◌, ◌≤◌, true, None, []}
use Rattle.turn_cell.specs.Passes.{number, mine, seen}
use Rattle.outside.specs.Stops.{first_met}
use Rattle.conn_read_items.specs.Asking.{AskedForAll}
use Rattle.conn_read_items.specs.Taking.{AreLent, KeepsOthers, WentOn}
use Rattle.conn_read_items.proofs.rounds.read_rounds.Given as goal

abbrev pub invariant-loop-round : goal.invariant-loop-round
invariant-loop-round g l = record {
  lent : AreLent l.cells l.passes;
  others : KeepsOthers l.initial.passes l.passes;
  asked : AskedForAll l.cells.channels.now l.initial.passes l.passes;
  line : g.I.LinkIn.line l.input ≡ g.I.LinkIn.line l.initial.input;
  faults : g.I.LinkIn.faults l.initial.input ≤ g.I.LinkIn.faults l.input;
  ended : g.I.LinkIn.ended l.input ≡ g.I.LinkIn.ended l.initial.input;
  account : WentOn l.cells.channels.now l.initial.passes.inputs.items l.passes.inputs.items (g.I.LinkIn.got l.initial.input) (g.I.LinkIn.got l.input) [] l.incoming;
  same_number : number l.passes.stop ≡ number l.initial.passes.stop;
  no_entry : mine l.passes.stop ≡ mine l.initial.passes.stop;
  calm : l.watch ≡ true → first_met (seen l.passes.stop) ≡ None;
}
