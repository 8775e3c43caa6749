use Rattle.std.proofs.Common.{Some, refl, rules}
use Rattle.std.proofs.lemmas.List.Elements.{All-pop}
use Rattle.record_writer.specs.Channels.{IsPart}
use Rattle.record_writer.specs.Segments.{all_held, lending_of}
use Rattle.record_writer.proofs.Segments.{gave_last, had_none}
use Rattle.record_writer.proofs.supply.Supply.give_all.Goals as goal

pub loop-part-preserved-in-Some-segment : goal.loop-part-preserved-in-Some-segment
loop-part-preserved-in-Some-segment g c = record {
  supply = search rules;
  same = search rules;
  stop_pass = search rules;
  parts = (All-pop (IsPart c.args.self.now.size) c.loop-part.parts.items c.pop.new.self.items (Some c.in-Some.part) c.in-Some.ensures.items c.loop-part.invariant.parts).0;
  none_lost = gave_last (lending_of c.args.self.now) (lending_of c.loop-part.self) (lending_of c.give.new.self) (all_held c.args.parts.items) c.loop-part.parts.items c.pop.new.self.items c.in-Some.part c.loop-part.invariant.none_lost c.in-Some.ensures.items c.in-Some-segment.segment c.in-Some-segment.is c.give.ensures.returned;
}

pub loop-part-preserved : goal.loop-part-preserved
loop-part-preserved g c = record {
  supply = search rules;
  same = search rules;
  stop_pass = search rules;
  parts = (All-pop (IsPart c.args.self.now.size) c.loop-part.parts.items c.pop.new.self.items (Some c.in-Some.part) c.in-Some.ensures.items c.loop-part.invariant.parts).0;
  none_lost = had_none (lending_of c.args.self.now) (lending_of c.loop-part.self) (lending_of c.loop-part.self) (all_held c.args.parts.items) c.loop-part.parts.items c.pop.new.self.items c.in-Some.part c.loop-part.invariant.none_lost c.in-Some.ensures.items c.in_default-segment.is refl;
}
