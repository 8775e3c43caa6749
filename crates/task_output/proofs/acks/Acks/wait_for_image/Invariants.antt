use Rattle.std.proofs.Common.{◌≡◌}
use Rattle.task_output.specs.Acking.{HasPasses, IsSameTask}
use Rattle.task_output.proofs.acks.Acks.wait_for_image.Given as goal

-- nothing was sent
abbrev pub invariant-loop-round : goal.invariant-loop-round
invariant-loop-round g l = record {
  own : HasPasses l.self;
  same : IsSameTask l.initial.self l.self;
  pass : l.self.pass ≡ l.initial.self.pass;
  many : l.self.sent ≡ l.initial.self.sent;
  still : g.L.LooksForStop.still l.initial.stop l.stop;
}
