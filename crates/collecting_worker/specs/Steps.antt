-- One checkpoint of the worker. As in Flink it is stored once it is complete; that this happens in a turn of the stop cell, and only where
-- that shows no entry, is this project's own choice.
use Rattle.std.specs.Prelude.{◌≡◌, ◌≢◌, ℕ, ◌⊎◌, ⊤, Bool, List, [], ◌∷◌, ◌++◌, Option, Some, None}
use Rattle.turn_cell.specs.Passes.{IsPassOf, IsSamePass, mine, number, seen}
use Rattle.flow_defs.specs.Items.{Items}
use Rattle.flow_defs.specs.declared.cause.Cause.{Cause}
use Rattle.flow_defs.specs.declared.cause.Cause.TheVariants as causes
use Rattle.flow_defs.specs.declared.job.Job.{Job}
use Rattle.flow_defs.specs.declared.image.Image.{Image}
use Rattle.flow_defs.specs.declared.image.Snapshot.{Snapshot}
use Rattle.plain_machine.specs.Spelling.{spelling, CanSpell}
use Rattle.channel_state.specs.ImageFaults.{IsReadable}
use Rattle.collector.specs.declared.collector.Checkpoint.{Checkpoint}
use Rattle.collector.specs.Faults.{IsFaultOf}
use Rattle.snapshot_channel.specs.Passes.{IsCollecting, received_by}
use Rattle.outside.specs.Faults.{HasRisen}
use Rattle.outside.specs.Keepers.{KeptImage, with_image}
use Rattle.outside.specs.Stops.{first_met, told_of}
use Rattle.outside.specs.declared.stop.StopEntry.{StopEntry}
use Rattle.conn_parts.specs.Stopping.{StopCell, StopPass}
use Rattle.collecting_worker.specs.declared.worker.Worker.{Worker}
use Rattle.collecting_worker.specs.Images.{stored_of, has_all_ended}
use Rattle.collecting_worker.specs.Accounts.{HasText}
use Rattle.collecting_worker.specs.Gathering.{IsBetween, IsComplete, IsSameGathering, job_of}

-- Why the worker breaks off at a checkpoint: it saw a fault, or the keeper failed and that was the first one, or the image has a fault, or
-- there was no memory.
abbrev pub BreaksFor : Job → List Snapshot → Checkpoint → ℕ → ℕ → List (ℕ × StopEntry) → Cause → Type 0
BreaksFor job received checkpoint fell rose met causes.Done = ⊥
BreaksFor job received checkpoint fell rose met causes.Stopped = met ≢ []
BreaksFor job received checkpoint fell rose met (causes.Input source) = ⊥
BreaksFor job received checkpoint fell rose met causes.Keeper = HasRisen fell rose × (first_met met ≡ Some causes.Keeper)
BreaksFor job received checkpoint fell rose met causes.Link = ⊥
BreaksFor job received checkpoint fell rose met (causes.LongLine source) = ⊥
BreaksFor job received checkpoint fell rose met (causes.BigSource source) = ⊥
BreaksFor job received checkpoint fell rose met causes.BigImage = (image : Image) × IsComplete job received checkpoint image × (CanSpell image → ⊥)
BreaksFor job received checkpoint fell rose met (causes.OverCredit channel received_number announced) = ⊥
BreaksFor job received checkpoint fell rose met (causes.Peer fault) = (image : Image) × IsComplete job received checkpoint image × IsFaultOf job image (Some fault)
BreaksFor job received checkpoint fell rose met causes.Memory = ⊤

-- ---- the worker

-- Its passes are of its channel and its cells.
pub record HasOwnPasses (w : Worker) : Type 0 where
  pub pass : IsCollecting w.gathering.channel.now w.gathering.pass
  pub last_pass : IsPassOf w.last_image.now w.last_pass × (number w.last_pass ≡ 0)
  pub stop_pass : IsPassOf w.stop.now w.stop_pass

-- Checkpoint k is the next one, and what it has at hand is its own.
pub record IsWorker (k : ℕ) (w : Worker) : Type 0 where
  pub between : IsBetween k w.gathering
  pub job_is : job_of w.gathering ≡ w.job.now
  pub text : HasText w.job.now
  pub own : HasOwnPasses w

-- It works for the same job, with the same channel and cells.
pub record IsSameWorker (old new : Worker) : Type 0 where
  pub gathering : IsSameGathering old.gathering new.gathering
  pub job_is : new.job ≡ old.job
  pub last_image : new.last_image ≡ old.last_image
  pub stop : new.stop ≡ old.stop
  pub stop_number : number new.stop_pass ≡ number old.stop_pass

-- The image of the checkpoint is complete, has no fault and can be spelled and read again, and these bytes spell it.
pub record IsImageReady (w : Worker) (checkpoint : Checkpoint) (image : Image) (bytes : Items ℕ) : Type 0 where
  pub complete : IsComplete w.job.now (received_by w.gathering.pass) checkpoint image
  pub sound : IsFaultOf w.job.now image None
  pub can : CanSpell image
  pub readable : IsReadable image
  pub bytes_are : bytes.items ≡ spelling image

-- The image was kept and then told, and is at hand as the last one.
pub record HasKept (old new : Worker) (before after : Option (List KeptImage)) (image : Image) (all_ended : Bool) : Type 0 where
  pub kept : after ≡ with_image before image.number (spelling image)
  pub told : mine new.last_pass ≡ mine old.last_pass ++ stored_of image ∷ []
  pub last_is : new.last ≡ Some image
  pub all_ended_is : all_ended ≡ has_all_ended image
  pub stop : mine new.stop_pass ≡ mine old.stop_pass

-- No image was kept, and the stop cell was told of the fault, where it is the worker's own.
pub record HasBroken (old new : Worker) (before after : Option (List KeptImage)) (cause : Cause) : Type 0 where
  pub kept : after ≡ before
  pub told : mine new.last_pass ≡ mine old.last_pass
  pub last_is : new.last ≡ old.last
  pub stop : mine new.stop_pass ≡ mine old.stop_pass ++ told_of cause

-- It ends with its cause; or it was done, looks for a fault, and was stopped where it saw one. It told nothing more.
pub record EndsAs (cell : StopCell) (cause told_cause : Cause) (before after : StopPass) : Type 0 where
  pub pass : IsPassOf cell after
  pub same : IsSamePass before after
  pub done : cause ≡ causes.Done → ((told_cause ≡ causes.Done) × (seen after ≡ [])) ⊎ ((told_cause ≡ causes.Stopped) × (seen after ≢ []))
  pub else : cause ≢ causes.Done → (told_cause ≡ cause) × (after ≡ before)
