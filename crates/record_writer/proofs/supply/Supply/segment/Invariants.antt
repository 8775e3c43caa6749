use Rattle.std.proofs.Common.{◌≡◌, true, None}
use Rattle.turn_cell.specs.Passes.{seen}
use Rattle.outside.specs.Stops.{first_met}
use Rattle.record_writer.specs.Channels.{IsSupply, IsSameSupply}
use Rattle.record_writer.specs.Segments.{lending_of}
use Rattle.record_writer.proofs.supply.Supply.segment.Given as goal

abbrev pub invariant-loop-round : goal.invariant-loop-round
invariant-loop-round g l = record {
  supply : IsSupply l.self;
  same : IsSameSupply l.initial.self l.self;
  lending : lending_of l.self ≡ lending_of l.initial.self;
  calm : l.watch ≡ true → first_met (seen l.self.stop_pass) ≡ None;
}
