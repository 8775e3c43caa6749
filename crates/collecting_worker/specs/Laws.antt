-- What the account of the collecting worker comes to, as the laws of checkpoints want it.
use Rattle.std.specs.Prelude.{◌≡◌, ℕ, suc, ◌<◌, ◌≤◌, List, length, Contains, Option}
use Rattle.flow_defs.specs.declared.job.Job.{Job}
use Rattle.flow_defs.specs.declared.image.Image.{Image}
use Rattle.flow_defs.specs.declared.image.Snapshot.{Snapshot}
use Rattle.flow_defs.specs.Jobs.{last_edge, tasks}
use Rattle.job_start.specs.declared.start.Start.{Start}
use Rattle.job_start.specs.Starts.{IsBase}
use Rattle.checkpoint_laws.specs.Chapters.{task_at}
use Rattle.checkpoint_laws.specs.Collecting.{IsMadeOf, Collected}
use Rattle.checkpoint_laws.specs.Runs.{image_at}
use Rattle.snapshot_channel.specs.Snapshots.{IsBeginning, snapshots_of}
use Rattle.outside.specs.Keepers.{KeptImage}
use Rattle.outside.specs.declared.last_image.Stored.{Stored}
use Rattle.collecting_worker.specs.Images.{AreStored}

-- What is told of a run by the worker that collects: each image is made of snapshots that the tasks sent, and was collected behind the
-- one before it.
pub record AreCollected (job : Job) (every : Option ℕ) (base : Image) (images : List Image) (sent : ℕ → ℕ → List Snapshot) (snapshot : ℕ → ℕ → ℕ → Snapshot) : Type 0 where
  pub acknowledged : (k i a : ℕ) → k < length images → i ≤ suc (last_edge job) → a < tasks job i →
      Contains (sent i a) (snapshot k i a) × ((snapshot k i a).number ≡ (image_at base images (suc k)).number)
  pub made : (k : ℕ) → k < length images → IsMadeOf job (image_at base images (suc k)) (snapshot k)
  pub collected : (k : ℕ) → k < length images → Collected job every (image_at base images k) (image_at base images (suc k))

-- The images that were stored are so, where the snapshots that were received are a beginning of those that each task sent.
abbrev pub StoredAreCollected : Type 0
StoredAreCollected =
    (job : Job) (start : Start) (every : Option ℕ) (base : Image) (received : List Snapshot) (before after : Option (List KeptImage)) (told : List Stored) (images : List Image) (sent : ℕ → ℕ → List Snapshot) →
    IsBase job start base → AreStored job start every received before after told images →
    ((i a : ℕ) → i ≤ suc (last_edge job) → a < tasks job i → IsBeginning (snapshots_of (task_at i a) received) (sent i a)) →
    (snapshot : ℕ → ℕ → ℕ → Snapshot) × AreCollected job every base images sent snapshot
