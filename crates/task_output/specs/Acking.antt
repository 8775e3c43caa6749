-- By what a task acknowledges checkpoints. As in FLIP-76 it does so by a snapshot for each.
use Rattle.std.specs.Prelude.{◌≡◌, ℕ, ◌≤◌, [], length, Option, IfSome}
use Rattle.turn_cell.specs.History.{StartsWith}
use Rattle.turn_cell.specs.Passes.{IsPassOf, mine, seen}
use Rattle.flow_defs.specs.declared.job.Job.{Job}
use Rattle.checkpoint_laws.specs.Chapters.{task_at}
use Rattle.job_start.specs.declared.start.Start.{Start}
use Rattle.job_start.specs.Starts.{all_were_ended}
use Rattle.outside.specs.declared.last_image.Stored.{Stored}
use Rattle.snapshot_channel.specs.Passes as channels
use Rattle.snapshot_channel.specs.Passes.{opening_of, sent_by, task_of}
use Rattle.task_output.specs.declared.acks.Acks.{Acks}
use Rattle.task_output.specs.declared.world.World.{World}

-- The image from which a run goes on, as others are told of an image.
abbrev pub base_of : Start → Stored
base_of start = record { number = start.number; all_ended = all_were_ended start }

-- The passes are of its channel of snapshots and of its cell of the last image. It knows the image from which the run began, for which the
-- channel is opened, and how many snapshots it has sent.
pub record HasPasses (acks : Acks) : Type 0 where
  pub snapshots : channels.IsPassOf acks.snapshots.now acks.pass
  pub last_image : IsPassOf acks.last_image.now acks.last_pass
  pub base_is : acks.base ≡ base_of (opening_of acks.snapshots.now).start
  pub sent_is : acks.sent ≡ length (sent_by acks.pass)

-- The same task acknowledges by the same channel and the same cell, of which it has seen no less, from the same image on.
pub record IsSameTask (acks acks' : Acks) : Type 0 where
  pub snapshots : acks'.snapshots ≡ acks.snapshots
  pub last_image : acks'.last_image ≡ acks.last_image
  pub base : acks'.base ≡ acks.base
  pub task : task_of acks'.pass ≡ task_of acks.pass
  pub later : StartsWith (seen acks'.last_pass) (seen acks.last_pass)

-- Task a of stage i is lent fresh passes: of the channel of snapshots, which is opened for the job, for where it goes on and for this
-- interval, of the cell of the last image, and of what stops all workers. An interval has at least one line.
pub record IsLent {P : Type 0} (job : Job) (i a : ℕ) (start : Start) (every : Option ℕ) (world : World P) : Type 0 where
  pub interval : IfSome every (λ n. 1 ≤ n)
  pub passes : HasPasses world.acks
  pub fresh : sent_by world.acks.pass ≡ []
  pub task : task_of world.acks.pass ≡ task_at i a
  pub opening : opening_of world.acks.snapshots.now ≡ channels.opening job start every
  pub stop : IsPassOf world.stop.now world.stop_pass × (mine world.stop_pass ≡ [])
