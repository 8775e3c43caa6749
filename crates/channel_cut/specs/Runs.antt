-- A run told by its workers and by the cells of its channels, from any image on. As in Flink a job goes on from a checkpoint as if nothing had
-- been lost or repeated, and as in FLIP-76 what was in flight there is taken first. That this follows from what each worker tells of itself,
-- with no order between them, is this project's own choice.
use Rattle.std.specs.Prelude.{◌≡◌, ℕ, suc, ◌+◌, ◌<◌, ◌≤◌, true, List, [], ◌++◌, length, map, Contains, Option}
use Rattle.std.specs.List.{AllByRecursion, slice_index_or}
use Rattle.turn_cell.specs.History.{by, entries_of}
use Rattle.flow_defs.specs.declared.job.Job.{Job}
use Rattle.flow_defs.specs.declared.image.Snapshot.{Snapshot}
use Rattle.flow_defs.specs.declared.image.Image.{Image}
use Rattle.flow_defs.specs.Jobs.{last_edge, tasks, is_channel, IsJob}
use Rattle.flow_defs.specs.Tables.{join}
use Rattle.plain_machine.specs.Worth.{tally, worth}
use Rattle.plain_machine.specs.Images.{saved, cut_of, Fits, IsStart}
use Rattle.plain_machine.specs.Chains.{Chain, last_of, IsUnchanged}
use Rattle.plain_machine.specs.Histories.{of_sender}
use Rattle.job_start.specs.declared.start.Start.{Start}
use Rattle.job_start.specs.Starts.{from_of, IsStartAt}
use Rattle.checkpoint_laws.specs.Puts.{stretches}
use Rattle.checkpoint_laws.specs.Chapters.{Chapter, Linked, Step, shown}
use Rattle.checkpoint_laws.specs.Collecting.{IsMadeOf, Collected}
use Rattle.checkpoint_laws.specs.Runs.{IsInterval, IsToldRun, image_at, took_before}
use Rattle.subpartition.specs.declared.entry.SendEntry.{SendEntry}
use Rattle.subpartition.specs.Sending.{parcels_put}
use Rattle.input_channel.specs.declared.entry.ReceiveEntry.{ReceiveEntry}
use Rattle.channel_cut.specs.Cuts.{InLine, Shows}
use Rattle.channel_cut.specs.Ends.{AreEnds}

-- ---- what a task did

-- A snapshot with nothing in flight, at its gate or on the channels on which it sends.
abbrev pub HasNoFlight : Snapshot → Type 0
HasNoFlight x = (x.saved_in.items ≡ []) × (x.saved_out.items ≡ [])

-- The chapter from which a task goes on that starts with this: its number, its offset, its emitted count and its table.
abbrev pub opened : Snapshot → Chapter
opened «from» = record { took = []; put = λ b. []; snapshot = «from» }

-- What task a of stage i did, whatever its cause, where it went on from this and its gate had these flights: its chapters, each of which ends
-- with a snapshot that it sent, with nothing in flight; what it put before its barriers on the channels on which it sends; and how its gate
-- cut each channel from which it takes. Of each channel it tells what its pass has seen. It may have put more.
pub record TaskDid (job : Job) (lines : ℕ → List (List ℕ)) (every : Option ℕ) («from» : Snapshot) (flight : ℕ → ℕ → List ℕ) (i a : ℕ) (chapters : List Chapter) (acks : List Snapshot)
    (sends : ℕ → List (ℕ × SendEntry)) (takes : ℕ → ℕ → List (ℕ × ReceiveEntry)) (more : ℕ → List (List ℕ)) : Type 0 where
  pub steps : Linked (Step job lines every i a) (opened «from») chapters
  pub snapshots : map (λ (c : Chapter). c.snapshot) chapters ≡ acks
  pub no_flight : AllByRecursion HasNoFlight acks
  pub puts : (b : ℕ) → is_channel job i a b ≡ true → stretches (parcels_put (by 0 (sends b))) ≡ map (λ (c : Chapter). c.put b) chapters ++ more b
  pub cuts : (e s k : ℕ) → i ≡ suc e → is_channel job e s a ≡ true → k < length chapters →
      Shows (flight e s) (entries_of (takes e s)) (InLine (suc k) (of_sender s (took_before (suc k) chapters)))

-- Snapshot k + 1 of a task has the number that comes so far behind that from which it went on.
abbrev pub NumbersGoOn : Type 0
NumbersGoOn =
    (job : Job) (lines : ℕ → List (List ℕ)) (every : Option ℕ) («from» : Snapshot) (flight : ℕ → ℕ → List ℕ) (i a : ℕ) (chapters : List Chapter) (acks : List Snapshot)
    (sends : ℕ → List (ℕ × SendEntry)) (takes : ℕ → ℕ → List (ℕ × ReceiveEntry)) (more : ℕ → List (List ℕ)) →
    TaskDid job lines every «from» flight i a chapters acks sends takes more → (k : ℕ) → k < length chapters →
    (slice_index_or chapters k (opened «from»)).snapshot.number ≡ «from».number + suc k

-- ---- from where it goes on

-- Task a of stage i goes on from what the image shows of it: a source from its offset, each task that sends from its emitted count, and one
-- of the aggregate from its table.
pub record IsFrom (job : Job) (image : Image) (i a : ℕ) («from» : Snapshot) : Type 0 where
  pub number : «from».number ≡ image.number
  pub offset : i ≡ 0 → «from».offset ≡ (shown job image i a).offset
  pub emitted : i ≤ last_edge job → «from».emitted ≡ (shown job image i a).emitted
  pub table : i ≡ suc (last_edge job) → «from».table ≡ (shown job image i a).table

-- So it does where the start of the run is at the image.
abbrev pub StartIsFrom : Type 0
StartIsFrom = (job : Job) (image : Image) (start : Start) (i a : ℕ) → IsStartAt image start → IsFrom job image i a (from_of job start i a)

-- ---- the run

-- All workers of a job, by stage and task, which went on from the base, and what is in flight there. These are the images that were stored
-- behind it, the snapshots that the tasks sent, and what the passes of the tasks had seen of the channels.
pub record JobRan (job : Job) (lines : ℕ → List (List ℕ)) (every : Option ℕ) (base : Image) (images : List Image)
    (acks : ℕ → ℕ → List Snapshot) (sends : ℕ → ℕ → ℕ → List (ℕ × SendEntry)) (takes : ℕ → ℕ → ℕ → List (ℕ × ReceiveEntry)) : Type 0 where
  pub chapters : ℕ → ℕ → List Chapter
  pub more : ℕ → ℕ → ℕ → List (List ℕ)
  pub start : ℕ → ℕ → Snapshot
  pub starts : (i a : ℕ) → i ≤ suc (last_edge job) → a < tasks job i → IsFrom job base i a (start i a)
  pub did : (i a : ℕ) → i ≤ suc (last_edge job) → a < tasks job i →
      TaskDid job lines every (start i a) (λ e s. saved job base e s a) i a (chapters i a) (acks i a) (sends i a) (λ e s. takes e s a) (more i a)
  pub sent : ℕ → ℕ → ℕ → List (ℕ × SendEntry)
  pub received : ℕ → ℕ → ℕ → List (ℕ × ReceiveEntry)
  pub channels : (e a b : ℕ) → is_channel job e a b ≡ true → AreEnds (sends e a b) (takes e a b) (sent e a b) (received e a b)
  pub snapshot : ℕ → ℕ → ℕ → Snapshot
  pub acknowledged : (k i a : ℕ) → k < length images → i ≤ suc (last_edge job) → a < tasks job i →
      Contains (acks i a) (snapshot k i a) × ((snapshot k i a).number ≡ (image_at base images (suc k)).number)
  pub made : (k : ℕ) → k < length images → IsMadeOf job (image_at base images (suc k)) (snapshot k)
  pub collected : (k : ℕ) → k < length images → Collected job every (image_at base images k) (image_at base images (suc k))

-- ---- what comes of it

-- From a base that fits the job it is a told run, with the cut of each channel at each image,
abbrev pub RanIsTold : Type 0
RanIsTold =
    (job : Job) (lines : ℕ → List (List ℕ)) (every : Option ℕ) (base : Image) (images : List Image)
    (acks : ℕ → ℕ → List Snapshot) (sends : ℕ → ℕ → ℕ → List (ℕ × SendEntry)) (takes : ℕ → ℕ → ℕ → List (ℕ × ReceiveEntry)) →
    Fits job base → (ran : JobRan job lines every base images acks sends takes) →
    IsToldRun job lines every base images ran.chapters acks (λ i a b. parcels_put (by 0 (sends i a b))) ran.more ran.snapshot

-- so its images are a chain, whatever the causes with which the workers ended,
abbrev pub RanIsChain : Type 0
RanIsChain =
    (job : Job) (lines : ℕ → List (List ℕ)) (every : Option ℕ) (base : Image) (images : List Image)
    (acks : ℕ → ℕ → List Snapshot) (sends : ℕ → ℕ → ℕ → List (ℕ × SendEntry)) (takes : ℕ → ℕ → ℕ → List (ℕ × ReceiveEntry)) →
    IsInterval every → Fits job base → IsUnchanged job lines base → JobRan job lines every base images acks sends takes → Chain job lines every base images

-- and where the last one is marked so, its tables joined are what the base is worth,
abbrev pub RanEndsInWorth : Type 0
RanEndsInWorth =
    (job : Job) (lines : ℕ → List (List ℕ)) (every : Option ℕ) (base : Image) (images : List Image)
    (acks : ℕ → ℕ → List Snapshot) (sends : ℕ → ℕ → ℕ → List (ℕ × SendEntry)) (takes : ℕ → ℕ → ℕ → List (ℕ × ReceiveEntry)) →
    IsJob job → IsInterval every → Fits job base → IsUnchanged job lines base → JobRan job lines every base images acks sends takes →
    (last_of base images).final_one ≡ true → join job.agg (last_of base images).tables.items ≡ worth job lines (cut_of job base)

-- and from the start of the job on the tally of all lines.
abbrev pub RanEndsInTally : Type 0
RanEndsInTally =
    (job : Job) (lines : ℕ → List (List ℕ)) (every : Option ℕ) (base : Image) (images : List Image)
    (acks : ℕ → ℕ → List Snapshot) (sends : ℕ → ℕ → ℕ → List (ℕ × SendEntry)) (takes : ℕ → ℕ → ℕ → List (ℕ × ReceiveEntry)) →
    IsJob job → IsInterval every → IsStart job base → JobRan job lines every base images acks sends takes →
    (last_of base images).final_one ≡ true → join job.agg (last_of base images).tables.items ≡ tally job lines
