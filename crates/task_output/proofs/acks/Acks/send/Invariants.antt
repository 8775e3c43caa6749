use Rattle.std.proofs.Common.{◌≡◌}
use Rattle.snapshot_channel.specs.Passes.{sent_by}
use Rattle.task_output.specs.Acking.{HasPasses, IsSameTask}
use Rattle.task_output.proofs.acks.Acks.send.Given as goal

-- the snapshot waits
abbrev pub invariant-loop-round : goal.invariant-loop-round
invariant-loop-round g l = record {
  own : HasPasses l.self;
  same : IsSameTask l.initial.self l.self;
  last_pass : l.self.last_pass ≡ l.initial.self.last_pass;
  sent : sent_by l.self.pass ≡ sent_by l.initial.self.pass;
  many : l.self.sent ≡ l.initial.self.sent;
  waiting : l.waiting ≡ l.fn.snapshot;
  still : g.L.LooksForStop.still l.initial.stop l.stop;
}
