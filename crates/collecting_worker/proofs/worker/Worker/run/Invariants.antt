use Rattle.std.proofs.Common.{◌≡◌, ◌≤◌, ◌<◌, ◌+◌, ℕ, []}
use Rattle.turn_cell.specs.Passes.{mine}
use Rattle.snapshot_channel.specs.Passes.{received_by}
use Rattle.outside.specs.Keepers.{IsAboveLast}
use Rattle.collecting_worker.specs.Steps.{IsSameWorker, IsWorker}
use Rattle.collecting_worker.proofs.Going.{IsGoing}
use Rattle.collecting_worker.proofs.worker.Worker.run.Given as goal

-- the images up to this number are stored
abbrev pub invariant-loop-before : goal.invariant-loop-before
invariant-loop-before g l = record {
  same : IsSameWorker l.fn.self l.self;
  worker : IsWorker (l.before + 1) l.self;
  going : IsGoing l.fn.self.job.now l.start l.fn.every (received_by l.self.gathering.pass) (g.K.ImageStore.images l.fn.keeper) (g.K.ImageStore.images l.keeper) (mine l.self.last_pass) l.self.last (l.before + 1) l.final_one;
  stop : mine l.self.stop_pass ≡ [];
  cell : g.K.ImageStore.is_stopped_by l.keeper l.self.stop.now;
  above : (n : ℕ) → l.before < n → IsAboveLast (g.K.ImageStore.images l.keeper) n;
  never_falls : g.K.ImageStore.faults l.fn.keeper ≤ g.K.ImageStore.faults l.keeper;
}
