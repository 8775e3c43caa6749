use Rattle.turn_cell.specs.Passes.{IsPassOf, IsSamePass}
use Rattle.collecting_worker.specs.Gathering.{IsOpen, IsSameGathering}
use Rattle.collecting_worker.proofs.gathering.Gathering.gather.Given as goal

-- the checkpoint is still open
abbrev pub invariant-loop-snapshot : goal.invariant-loop-snapshot
invariant-loop-snapshot g l = record {
  same : IsSameGathering l.initial.self l.self;
  still_open : IsOpen l.checkpoint l.self;
  stop : IsPassOf l.stop l.stop_pass;
  same_stop : IsSamePass l.initial.stop_pass l.stop_pass;
}
