use Rattle.turn_cell.specs.Passes.{IsPassOf, IsSamePass}
use Rattle.collecting_worker.specs.Gathering.{IsOpen, IsSameGathering}
use Rattle.collecting_worker.proofs.gathering.Gathering.wait_for_next.Given as goal

-- nothing was received
abbrev pub invariant-loop-round : goal.invariant-loop-round
invariant-loop-round g l = record {
  same : IsSameGathering l.initial.self l.self;
  still_open : IsOpen l.checkpoint l.self;
  stop : IsPassOf l.stop l.stop_pass;
  same_stop : IsSamePass l.initial.stop_pass l.stop_pass;
}
