use Rattle.std.proofs.Common.{length, Some, [], ◌∷◌, refl, ap, ◌∙◌, length-append}
use Rattle.std.proofs.lemmas.List.Elements.{All-pop}
use Rattle.job_deploy.specs.Placing.{IsStop}
use Rattle.job_deploy.proofs.shared.Shared.lend.Goals as goal

pub returns-clause-stops : goal.returns-clause-stops
returns-clause-stops g c = let was = c.args.self.now in let taken = c.take_last-stop_pass in record {
  stayed = record { start_is = refl; every_is = refl; channel = refl };
  cell = refl;
  are = (All-pop (IsStop was.stop.now) was.stops.items taken.new.self.items (Some taken.result) taken.ensures.items c.requires.stops.0).0;
  fewer = ap length taken.ensures.items ∙ length-append taken.new.self.items (taken.result ∷ []);
}

pub returns-clause-taken : goal.returns-clause-taken
returns-clause-taken g c = let was = c.args.self.now in let taken = c.take_last-stop_pass in record {
  channel = refl;
  snapshot_pass = c.take_last-snapshot_pass.ensures.items;
  last_image = (refl, refl);
  last_pass = c.take_last-last_pass.ensures.items;
  base = c.base_of.ensures;
  none_sent = refl;
  stop = (All-pop (IsStop was.stop.now) was.stops.items taken.new.self.items (Some taken.result) taken.ensures.items c.requires.stops.0).1;
}
