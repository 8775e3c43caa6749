-- What all tasks of a job share, and the passes of it that no task has yet. This is this project's own choice.
use Rattle.std.specs.Prelude.{◌≡◌, ◌≤◌, [], length, map, All, IfSome}
use Rattle.turn_cell.specs.Passes.{IsPassOf, mine}
use Rattle.flow_defs.specs.declared.job.Job.{Job}
use Rattle.job_start.specs.Starts.{IsStartFor}
use Rattle.snapshot_channel.specs.Passes as channels
use Rattle.snapshot_channel.specs.Snapshots.{all_tasks}
use Rattle.job_deploy.specs.declared.shared.Shared.{Shared}
use Rattle.job_deploy.specs.Stops.{stops_needed}

-- There are passes for all tasks of the job, which have done nothing: of the channel of snapshots, which is opened for the job, for where
-- its tasks go on and for this interval, in the order of the stages and then of the indices; of the cell that tells the image stored last; and of
-- the stop cell, for gates and loops besides. An interval has at least one line.
pub record AreShared (job : Job) (shared : Shared) : Type 0 where
  pub start : IsStartFor job shared.start.now
  pub interval : IfSome shared.every (λ n. 1 ≤ n)
  pub opening : channels.opening_of shared.snapshots.now ≡ channels.opening job shared.start.now shared.every
  pub fresh : All (channels.IsFresh shared.snapshots.now) shared.snapshot_passes.items
  pub tasks_are : map channels.task_of shared.snapshot_passes.items ≡ all_tasks job
  pub last_passes : All (IsPassOf shared.last_image.now) shared.last_passes.items
  pub last_enough : length (all_tasks job) ≤ length shared.last_passes.items
  pub stops : All (λ pass. IsPassOf shared.stop.now pass × (mine pass ≡ [])) shared.stops.items
  pub stops_enough : stops_needed job ≤ length shared.stops.items
