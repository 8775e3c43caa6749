-- What the worker that collects the snapshots of a job is lent, and what it leaves. This is this project's own choice.
use Rattle.std.specs.Prelude.{ℕ, ◌<◌, List, Option}
use Rattle.turn_cell.specs.Passes.{mine, seen}
use Rattle.outside.specs.Keepers.{KeptImage, IsAboveLast}
use Rattle.snapshot_channel.specs.Passes.{IsCollecting, received_by}
use Rattle.collecting_worker.specs.Accounts.{CollectAccount, IsLent}
use Rattle.collecting_worker.specs.declared.world.CollectEnd.{CollectEnd}
use Rattle.job_workers.specs.declared.collecting.CollectTask.{CollectTask}

-- It is lent fresh passes.
abbrev pub MayCollect : CollectTask → Type 0
MayCollect task = IsLent task.start.now task.every task.world

-- A keeper takes images from number 1 on.
abbrev pub TakesImages : Option (List KeptImage) → Type 0
TakesImages told = (n : ℕ) → 0 < n → IsAboveLast told n

-- It leaves its pass of the channel of snapshots, and has its account of what it stored in a keeper that tells these images before and
-- those after, and has counted so many faults.
pub record LeftByCollector (before after : Option (List KeptImage)) (fell rose : ℕ) (task : CollectTask) (end : CollectEnd) : Type 0 where
  pub collecting : IsCollecting task.world.snapshots.now end.collecting
  pub account : CollectAccount task.world.job.now task.start.now task.every (received_by end.collecting) before after (mine end.last_pass) end.last fell rose (seen end.stop_pass) end.cause
