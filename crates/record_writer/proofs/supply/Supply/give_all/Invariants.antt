use Rattle.std.proofs.Common.{◌≡◌, length}
use Rattle.std.specs.List.{All}
use Rattle.record_writer.specs.Channels.{IsPart, IsSupply, IsSameSupply}
use Rattle.record_writer.specs.Segments.{NoneLost, all_held, lending_of}
use Rattle.record_writer.proofs.supply.Supply.give_all.Given as goal

abbrev pub invariant-loop-part : goal.invariant-loop-part
invariant-loop-part g l = record {
  supply : IsSupply l.self;
  same : IsSameSupply l.initial.self l.self;
  stop_pass : l.self.stop_pass ≡ l.initial.self.stop_pass;
  parts : All (IsPart l.initial.self.size) l.parts.items;
  none_lost : NoneLost (lending_of l.initial.self) (lending_of l.self) 0 0 (all_held l.initial.parts.items) (all_held l.parts.items);
}

abbrev pub decreases-loop-part : goal.decreases-loop-part
decreases-loop-part g l = length l.parts.items
