-- A run, told by its workers: by the account of each task, by what the collecting worker says of each
-- image, and by the cut of each channel at each barrier. As in FLIP-76, on each channel what was in
-- flight and what was put before the barrier is what was taken before the snapshot and what was saved.
use Rattle.std.specs.Prelude.{◌≡◌, ℕ, suc, ◌<◌, ◌≤◌, true, List, ◌∷◌, ◌++◌, length, take, flat_map, Contains, Option, Some}
use Rattle.std.specs.List.{slice_index_or}
use Rattle.flow_defs.specs.declared.parcel.Parcel.{Parcel}
use Rattle.flow_defs.specs.declared.job.Job.{Job}
use Rattle.flow_defs.specs.declared.image.Snapshot.{Snapshot}
use Rattle.flow_defs.specs.declared.image.Image.{Image}
use Rattle.flow_defs.specs.Records.{all_encoded}
use Rattle.flow_defs.specs.Jobs.{last_edge, tasks, is_channel}
use Rattle.plain_machine.specs.Images.{saved}
use Rattle.plain_machine.specs.Histories.{of_sender}
use Rattle.checkpoint_laws.specs.Puts.{put_before}
use Rattle.checkpoint_laws.specs.Chapters.{Chapter, Account}
use Rattle.checkpoint_laws.specs.Collecting.{piece, IsMadeOf, Collected}

-- Where there is an interval, it has at least one line.
abbrev pub IsInterval : Option ℕ → Type 0
IsInterval every = (n : ℕ) → every ≡ Some n → 1 ≤ n

-- The base and the images behind it, by number from 0.
abbrev pub image_at : Image → List Image → ℕ → Image
image_at base images k = slice_index_or (base ∷ images) k base

-- What a task took in its first k chapters.
abbrev pub took_before : ℕ → List Chapter → List (ℕ × List ℕ)
took_before k chapters = flat_map (λ (c : Chapter). c.took) (take k chapters)

-- What the workers say, by stage and task: the account of each task, and that the image behind k others is
-- made of the snapshots snapshot k, which were sent and have its number.
pub record AreWorkers (job : Job) (lines : ℕ → List (List ℕ)) (every : Option ℕ) (base : Image) (images : List Image)
    (chapters : ℕ → ℕ → List Chapter) (sent : ℕ → ℕ → List Snapshot) (parcels : ℕ → ℕ → ℕ → List Parcel) (more : ℕ → ℕ → ℕ → List (List ℕ)) (snapshot : ℕ → ℕ → ℕ → Snapshot) : Type 0 where
  pub accounts : (i a : ℕ) → i ≤ suc (last_edge job) → a < tasks job i → Account job lines every base i a (chapters i a) (sent i a) (parcels i a) (more i a)
  pub acknowledged : (k i a : ℕ) → k < length images → i ≤ suc (last_edge job) → a < tasks job i →
      Contains (sent i a) (snapshot k i a) × ((snapshot k i a).number ≡ (image_at base images (suc k)).number)
  pub made : (k : ℕ) → k < length images → IsMadeOf job (image_at base images (suc k)) (snapshot k)
  pub collected : (k : ℕ) → k < length images → Collected job every (image_at base images k) (image_at base images (suc k))

-- And at each stored image the cut of each channel: what the base has in flight and what was put before
-- the barrier is what was taken up to the snapshot, and then the two saved pieces.
pub record IsToldRun (job : Job) (lines : ℕ → List (List ℕ)) (every : Option ℕ) (base : Image) (images : List Image)
    (chapters : ℕ → ℕ → List Chapter) (sent : ℕ → ℕ → List Snapshot) (parcels : ℕ → ℕ → ℕ → List Parcel) (more : ℕ → ℕ → ℕ → List (List ℕ)) (snapshot : ℕ → ℕ → ℕ → Snapshot) : Type 0 where
  pub workers : AreWorkers job lines every base images chapters sent parcels more snapshot
  pub cuts : (e a b k : ℕ) → is_channel job e a b ≡ true → k < length images →
      saved job base e a b ++ put_before (suc k) (parcels e a b)
      ≡ all_encoded (of_sender a (took_before (suc k) (chapters (suc e) b))) ++ (piece e a b (snapshot k (suc e) b).saved_in.items ++ piece e a b (snapshot k e a).saved_out.items)
