-- The images that the collecting worker makes and stores. As in Flink a checkpoint is complete once each
-- task has acknowledged it, and it is stored then. What is told of an image is this project's own choice.
use Rattle.std.specs.Prelude.{◌≡◌, ℕ, suc, ◌+◌, ◌<◌, ◌≤◌, Bool, true, List, ◌++◌, length, map, Contains, Option}
use Rattle.std.specs.Option.{option_map}
use Rattle.std.specs.List.{AllByRecursion, list_all}
use Rattle.flow_defs.specs.declared.job.Job.{Job}
use Rattle.flow_defs.specs.declared.image.Image.{Image}
use Rattle.flow_defs.specs.declared.image.Snapshot.{Snapshot}
use Rattle.flow_defs.specs.Jobs.{last_edge, tasks}
use Rattle.plain_machine.specs.Images.{Fits}
use Rattle.plain_machine.specs.Spelling.{spelling, CanSpell}
use Rattle.channel_state.specs.ImageFaults.{IsReadable}
use Rattle.plain_machine.specs.Chains.{last_of}
use Rattle.job_start.specs.declared.start.Start.{Start}
use Rattle.job_start.specs.Starts.{IsBase}
use Rattle.checkpoint_laws.specs.Chapters.{Linked, task_at}
use Rattle.checkpoint_laws.specs.Collecting.{IsMadeOf, IsLast, Collected}
use Rattle.collector.specs.Faults.{IsNothingSaved}
use Rattle.outside.specs.Keepers.{KeptImage}
use Rattle.outside.specs.declared.last_image.Stored.{Stored}

-- The snapshot was received: it is that of task a of stage i for checkpoint k.
pub record IsSnapshotFor (received : List Snapshot) (i a k : ℕ) (x : Snapshot) : Type 0 where
  pub received_it : Contains received x
  pub task_is : x.task ≡ task_at i a
  pub number_is : x.number ≡ k

-- The image is made of a snapshot of each task for its checkpoint, all of which were received.
pub record IsMadeFrom (job : Job) (received : List Snapshot) (image : Image) : Type 0 where
  pub snapshot : ℕ → ℕ → Snapshot
  pub made : IsMadeOf job image snapshot
  pub each : (i a : ℕ) → i ≤ suc (last_edge job) → a < tasks job i → IsSnapshotFor received i a image.number (snapshot i a)

-- It is that of the next checkpoint behind these images, and is the last as that checkpoint is. It is collected behind them, but that
-- something may stand in it where it is the last.
pub record IsNext (job : Job) (start : Start) (every : Option ℕ) (received : List Snapshot) (images : List Image) (image : Image) : Type 0 where
  pub made : IsMadeFrom job received image
  pub number_is : image.number ≡ start.number + suc (length images)
  pub last : (base : Image) → IsBase job start base → IsLast every (last_of base images) image
  pub collected : (image.final_one ≡ true → IsNothingSaved job image) → (base : Image) → IsBase job start base → Collected job every (last_of base images) image

-- An image as it is kept.
abbrev pub kept_of : Image → KeptImage
kept_of image = record { number = image.number; bytes = spelling image }

-- What a keeper has with these images behind those that it had, where it tells them.
abbrev pub with_images : Option (List KeptImage) → List Image → Option (List KeptImage)
with_images told images = option_map (λ before. before ++ map kept_of images) told

-- Whether all sources are ended in an image.
abbrev pub has_all_ended : Image → Bool
has_all_ended image = list_all (λ (ended : Bool). ended) image.ended.items

-- What the other workers are told of an image that is stored.
abbrev pub stored_of : Image → Stored
stored_of image = record { number = image.number; all_ended = has_all_ended image }

-- These images were stored from the start on, one behind the other, each of them made of snapshots that were
-- received. Each was kept and then told, and has a spelling, which reads as an image again.
pub record AreStored (job : Job) (start : Start) (every : Option ℕ) (received : List Snapshot) (before after : Option (List KeptImage)) (told : List Stored) (images : List Image) : Type 0 where
  pub kept : after ≡ with_images before images
  pub told_are : told ≡ map stored_of images
  pub collected : (base : Image) → IsBase job start base → Linked (Collected job every) base images
  pub fit : AllByRecursion (Fits job) images
  pub spelled : AllByRecursion CanSpell images
  pub readable : AllByRecursion IsReadable images
  pub made : AllByRecursion (IsMadeFrom job received) images
