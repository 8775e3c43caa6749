use Rattle.std.proofs.Common.{◌≡◌, true, None}
use Rattle.turn_cell.specs.Passes.{mine, seen}
use Rattle.outside.specs.Stops.{first_met}
use Rattle.record_writer.specs.Channels.{IsTaskPass, IsSupply, IsSameSupply}
use Rattle.record_writer.specs.Segments.{lending_of}
use Rattle.record_writer.proofs.channel.finish_waiting.Given as goal

abbrev pub invariant-loop-round : goal.invariant-loop-round
invariant-loop-round g l = record {
  supply : IsSupply l.supply;
  same : IsSameSupply l.initial.supply l.supply;
  pass : IsTaskPass l.cell l.pass;
  lending : lending_of l.supply ≡ lending_of l.initial.supply;
  own : mine l.pass ≡ mine l.initial.pass;
  calm : l.watch ≡ true → first_met (seen l.supply.stop_pass) ≡ None;
}
