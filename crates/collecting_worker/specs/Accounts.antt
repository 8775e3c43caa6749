-- What the collecting worker did, whatever its end. That it tells so is this project's own choice.
use Rattle.std.specs.Prelude.{◌≡◌, ℕ, ◌≤◌, ⊤, true, List, [], length, Option, Some, None, IfSome, IsSomeAnd}
use Rattle.std.specs.List.{last_or}
use Rattle.turn_cell.specs.Passes.{IsPassOf, mine, number}
use Rattle.flow_defs.specs.declared.cause.Cause.{Cause}
use Rattle.flow_defs.specs.declared.cause.Cause.TheVariants as causes
use Rattle.flow_defs.specs.declared.job.Job.{Job}
use Rattle.flow_defs.specs.declared.image.Image.{Image}
use Rattle.flow_defs.specs.declared.image.Snapshot.{Snapshot}
use Rattle.flow_defs.specs.Jobs.{IsJob}
use Rattle.plain_machine.specs.Spelling.{CanSpell}
use Rattle.job_start.specs.declared.start.Start.{Start}
use Rattle.job_start.specs.Starts.{IsStartFor}
use Rattle.job_text.specs.JobText.{IsJobText}
use Rattle.job_text.specs.KnownKinds.{every_kind}
use Rattle.channel_state.specs.Contents.{TEXT_MOST}
use Rattle.collector.specs.Faults.{IsFaultOf}
use Rattle.snapshot_channel.specs.Passes as channels
use Rattle.outside.specs.Faults.{HasRisen}
use Rattle.outside.specs.Keepers.{KeptImage}
use Rattle.outside.specs.Stops.{first_met}
use Rattle.outside.specs.declared.last_image.Stored.{Stored}
use Rattle.outside.specs.declared.stop.StopEntry.{StopEntry}
use Rattle.collecting_worker.specs.declared.world.CollectWorld.{CollectWorld}
use Rattle.collecting_worker.specs.Images.{AreStored, IsNext}

-- The job has the text that it was read from, and this is no longer than an image may hold it.
pub record HasText (job : Job) : Type 0 where
  pub is_job : IsJob job
  pub text : IsJobText every_kind job.text.items job
  pub short : length job.text.items ≤ TEXT_MOST

-- The worker is lent fresh passes: of the channel of snapshots, which is opened for this job from this start on and for this interval,
-- of the cell of the last image, whose entries are its own, and of the stop cell. The start is one of this job. An interval has at
-- least one line.
pub record IsLent (start : Start) (every : Option ℕ) (world : CollectWorld) : Type 0 where
  pub job : HasText world.job.now
  pub is_start : IsStartFor world.job.now start
  pub interval : IfSome every (λ n. 1 ≤ n)
  pub pass : channels.IsCollecting world.snapshots.now world.collecting
  pub opening : channels.opening_of world.snapshots.now ≡ channels.opening world.job.now start every
  pub none_received : channels.received_by world.collecting ≡ []
  pub last_pass : IsPassOf world.last_image.now world.last_pass
  pub first : number world.last_pass ≡ 0
  pub none_told : mine world.last_pass ≡ []
  pub stop : IsPassOf world.stop.now world.stop_pass × (mine world.stop_pass ≡ [])

-- Why the worker ends behind these images. It is the keeper's fault only where a call of it failed and no fault was met before. It is
-- another fault of its own only where the next image has it: a number or length that is too large to be spelled, or saved bytes that
-- are no records or stand in a last image.
abbrev pub IsCollectCause : Job → Start → Option ℕ → List Snapshot → List Image → ℕ → ℕ → List (ℕ × StopEntry) → Cause → Type 0
IsCollectCause job start every received images fell rose met causes.Done = ⊤
IsCollectCause job start every received images fell rose met causes.Stopped = ⊤
IsCollectCause job start every received images fell rose met (causes.Input source) = ⊥
IsCollectCause job start every received images fell rose met causes.Keeper = HasRisen fell rose × (first_met met ≡ Some causes.Keeper)
IsCollectCause job start every received images fell rose met causes.Link = ⊥
IsCollectCause job start every received images fell rose met (causes.LongLine source) = ⊥
IsCollectCause job start every received images fell rose met (causes.BigSource source) = ⊥
IsCollectCause job start every received images fell rose met causes.BigImage = (image : Image) × IsNext job start every received images image × (CanSpell image → ⊥)
IsCollectCause job start every received images fell rose met (causes.OverCredit channel received_number announced) = ⊥
IsCollectCause job start every received images fell rose met (causes.Peer fault) = (image : Image) × IsNext job start every received images image × IsFaultOf job image (Some fault)
IsCollectCause job start every received images fell rose met causes.Memory = ⊤

-- What the worker did by its passes and its keeper: it stored images, the last of which it hands back. It was done only where that is
-- the last of the job.
pub record CollectAccount (job : Job) (start : Start) (every : Option ℕ) (received : List Snapshot) (before after : Option (List KeptImage)) (told : List Stored) (last : Option Image) (fell rose : ℕ) (met : List (ℕ × StopEntry)) (cause : Cause) : Type 0 where
  pub images : List Image
  pub stored : AreStored job start every received before after told images
  pub last_is : last ≡ last_or None images
  pub done : cause ≡ causes.Done → IsSomeAnd last (λ image. image.final_one ≡ true)
  pub never_falls : fell ≤ rose
  pub cause_is : IsCollectCause job start every received images fell rose met cause
