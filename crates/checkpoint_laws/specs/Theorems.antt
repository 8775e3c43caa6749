-- The laws of checkpoints. Each is proved as a clause of a function of `laws`.
use Rattle.std.specs.Prelude.{◌≡◌, ℕ, suc, ◌<◌, ◌≤◌, true, List, length, take, Option}
use Rattle.std.specs.List.{AllByRecursion, slice_index_or}
use Rattle.flow_defs.specs.declared.parcel.Parcel.{Parcel}
use Rattle.flow_defs.specs.declared.job.Job.{Job}
use Rattle.flow_defs.specs.declared.image.Snapshot.{Snapshot}
use Rattle.flow_defs.specs.declared.image.Image.{Image}
use Rattle.flow_defs.specs.Jobs.{last_edge, tasks, is_channel, IsJob}
use Rattle.flow_defs.specs.Tables.{join}
use Rattle.plain_machine.specs.Worth.{tally, worth}
use Rattle.plain_machine.specs.Images.{AreSpans, cut_of, Fits, IsStart}
use Rattle.plain_machine.specs.Chains.{Chain, last_of, IsUnchanged}
use Rattle.checkpoint_laws.specs.Puts.{stretches}
use Rattle.checkpoint_laws.specs.Chapters.{Chapter, opening, Account}
use Rattle.checkpoint_laws.specs.Runs.{IsInterval, AreWorkers, IsToldRun}

-- ---- Of the accounts of tasks

-- What a task put from barrier to barrier, up to a snapshot that it sent, are records.
abbrev pub StretchesAreRecords : Type 0
StretchesAreRecords =
    (job : Job) (lines : ℕ → List (List ℕ)) (every : Option ℕ) (base : Image) (i a : ℕ)
    (chapters : List Chapter) (sent : List Snapshot) (parcels : ℕ → List Parcel) (more : ℕ → List (List ℕ)) →
    Account job lines every base i a chapters sent parcels more →
    (b k : ℕ) → is_channel job i a b ≡ true → k ≤ length chapters → AllByRecursion AreSpans (take k (stretches (parcels b)))

-- The snapshot of a task of which the image behind k others is made ends the chapter behind k others.
abbrev pub SnapshotEndsChapter : Type 0
SnapshotEndsChapter =
    (job : Job) (lines : ℕ → List (List ℕ)) (every : Option ℕ) (base : Image) (images : List Image)
    (chapters : ℕ → ℕ → List Chapter) (sent : ℕ → ℕ → List Snapshot) (parcels : ℕ → ℕ → ℕ → List Parcel) (more : ℕ → ℕ → ℕ → List (List ℕ)) (snapshot : ℕ → ℕ → ℕ → Snapshot) →
    AreWorkers job lines every base images chapters sent parcels more snapshot →
    (k i a : ℕ) → k < length images → i ≤ suc (last_edge job) → a < tasks job i →
    (k < length (chapters i a)) × ((slice_index_or (chapters i a) k (opening job base i a)).snapshot ≡ snapshot k i a)

-- ---- Of a run

-- The images of a run that is told by its workers are a chain.
abbrev pub ToldIsChain : Type 0
ToldIsChain =
    (job : Job) (lines : ℕ → List (List ℕ)) (every : Option ℕ) (base : Image) (images : List Image)
    (chapters : ℕ → ℕ → List Chapter) (sent : ℕ → ℕ → List Snapshot) (parcels : ℕ → ℕ → ℕ → List Parcel) (more : ℕ → ℕ → ℕ → List (List ℕ)) (snapshot : ℕ → ℕ → ℕ → Snapshot) →
    IsInterval every → Fits job base → IsUnchanged job lines base →
    IsToldRun job lines every base images chapters sent parcels more snapshot → Chain job lines every base images

-- Where its last image is marked so, it has the worth of the base in its tables.
abbrev pub ToldEndsInWorth : Type 0
ToldEndsInWorth =
    (job : Job) (lines : ℕ → List (List ℕ)) (every : Option ℕ) (base : Image) (images : List Image)
    (chapters : ℕ → ℕ → List Chapter) (sent : ℕ → ℕ → List Snapshot) (parcels : ℕ → ℕ → ℕ → List Parcel) (more : ℕ → ℕ → ℕ → List (List ℕ)) (snapshot : ℕ → ℕ → ℕ → Snapshot) →
    IsJob job → IsInterval every → Fits job base → IsUnchanged job lines base →
    IsToldRun job lines every base images chapters sent parcels more snapshot →
    (last_of base images).final_one ≡ true → join job.agg (last_of base images).tables.items ≡ worth job lines (cut_of job base)

-- From the start on it has the tally there.
abbrev pub ToldEndsInTally : Type 0
ToldEndsInTally =
    (job : Job) (lines : ℕ → List (List ℕ)) (every : Option ℕ) (base : Image) (images : List Image)
    (chapters : ℕ → ℕ → List Chapter) (sent : ℕ → ℕ → List Snapshot) (parcels : ℕ → ℕ → ℕ → List Parcel) (more : ℕ → ℕ → ℕ → List (List ℕ)) (snapshot : ℕ → ℕ → ℕ → Snapshot) →
    IsJob job → IsInterval every → IsStart job base →
    IsToldRun job lines every base images chapters sent parcels more snapshot →
    (last_of base images).final_one ≡ true → join job.agg (last_of base images).tables.items ≡ tally job lines
