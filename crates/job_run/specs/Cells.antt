-- What all workers of a run share beside edges and wires, before they are at work. This is this project's own choice.
use Rattle.std.specs.Prelude.{◌≡◌, ℕ, ◌≤◌, List, [], All, length, map, Option, IfSome}
use Rattle.turn_cell.specs.Passes.{IsPassOf, mine, number}
use Rattle.flow_defs.specs.declared.job.Job.{Job}
use Rattle.job_start.specs.Starts.{IsStartFor}
use Rattle.outside.specs.Keepers.{KeptImage}
use Rattle.snapshot_channel.specs.Passes.{IsCollecting, IsFresh, opening, opening_of, received_by, task_of}
use Rattle.snapshot_channel.specs.Snapshots.{all_tasks}
use Rattle.collecting_worker.specs.Accounts.{HasText}
use Rattle.job_workers.specs.Collecting.{TakesImages}
use Rattle.job_deploy.specs.Stops.{stops_needed}
use Rattle.job_run.specs.declared.cells.CellPasses.{CellPasses}
use Rattle.job_run.specs.declared.cells.OpenedCells.{OpenedCells}
use Rattle.job_run.specs.declared.cells.RunCells.{RunCells}
use Rattle.job_run.specs.declared.images.ImagePasses.{ImagePasses}
use Rattle.job_run.specs.declared.stops.StopPasses.{StopPasses}

-- Tasks, gates and loops have as many passes of the stop cell as they need, and the worker that collects has one, which have told nothing; the
-- run has one of its own.
pub record AreStopsOf (job : Job) (stops : StopPasses) : Type 0 where
  pub enough : stops_needed job ≤ length stops.workers.items
  pub each : All (λ pass. IsPassOf stops.cell pass × (mine pass ≡ [])) stops.workers.items
  pub collecting : IsPassOf stops.cell stops.collecting × (mine stops.collecting ≡ [])
  pub own : IsPassOf stops.cell stops.own

-- Of the cell of the last image each task has a pass, and the worker that collects has the first one, which has told of no image.
pub record AreImagePassesOf (job : Job) (images : ImagePasses) : Type 0 where
  pub enough : length (all_tasks job) ≤ length images.tasks.items
  pub each : All (IsPassOf images.cell) images.tasks.items
  pub collecting : IsPassOf images.cell images.collecting
  pub first : number images.collecting ≡ 0
  pub none_told : mine images.collecting ≡ []

-- The workers have their passes of these cells: the channel of snapshots is opened for the start from which the tasks go on, and nothing went
-- over it; of the other cells as in the two records above.
pub record AreDealt (job : Job) (every : Option ℕ) (cells : RunCells) (passes : CellPasses) : Type 0 where
  pub start : IsStartFor job cells.start
  pub opening_is : opening_of cells.channel ≡ opening job cells.start every
  pub collecting : IsCollecting cells.channel passes.collecting
  pub none_received : received_by passes.collecting ≡ []
  pub fresh : All (IsFresh cells.channel) passes.snapshots.items
  pub tasks_are : map task_of passes.snapshots.items ≡ all_tasks job
  pub images : AreImagePassesOf job (record { cell = cells.last_image; collecting = passes.last_collecting; tasks = passes.last })
  pub stops : (stops_needed job ≤ length passes.stops.items) × All (λ pass. IsPassOf cells.stop pass × (mine pass ≡ [])) passes.stops.items
  pub stop_collecting : IsPassOf cells.stop passes.stop_collecting × (mine passes.stop_collecting ≡ [])

-- So they are opened, the run has a pass of the stop cell, and there is room for the passes of all tasks.
pub record AreCellsOf (job : Job) (every : Option ℕ) (opened : OpenedCells) : Type 0 where
  pub dealt : AreDealt job every opened.cells opened.passes
  pub own : IsPassOf opened.cells.stop opened.own
  pub room : (opened.room.items ≡ []) × (length (all_tasks job) ≤ opened.room.room)

-- A job may be run with checkpoints: it has the text that its images hold, an interval has at least one line, and the keeper takes images from
-- number 1 on.
pub record CanCheckpoint (job : Job) (every : Option ℕ) (kept : Option (List KeptImage)) : Type 0 where
  pub text : HasText job
  pub interval : IfSome every (λ n. 1 ≤ n)
  pub takes : TakesImages kept
