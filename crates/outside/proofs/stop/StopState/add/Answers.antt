use Rattle.outside.proofs.Stops.{stops_kept}
use Rattle.outside.proofs.stop.StopState.add.Goals as goal

pub returns-in-Some : goal.returns-in-Some
returns-in-Some c history number s = stops_kept _ _ history number c.args.cause _ (c.in-Some.is) (c.in-Some.is) c.requires s
