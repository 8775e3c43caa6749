-- What a run of a job comes to, step by step. This is this project's own choice.
use Rattle.std.specs.Prelude.{◌≡◌, ◌≢◌, ◌⊎◌, ℕ, ◌<◌, ◌≤◌, List, option_and_then, Option, Some, Result, IfOk, IfErr, IsSome}
use Rattle.flow_defs.specs.Items.{Items}
use Rattle.flow_defs.specs.declared.cause.Cause.{Cause}
use Rattle.flow_defs.specs.declared.cause.Cause.TheVariants.{Done, Stopped, Memory}
use Rattle.flow_defs.specs.declared.cause.PeerFault.{PeerFault}
use Rattle.flow_defs.specs.declared.image.Image.{Image}
use Rattle.flow_defs.specs.declared.job.Job.{Job}
use Rattle.flow_defs.specs.Jobs.{tasks}
use Rattle.flow_defs.specs.Lines.{lines}
use Rattle.flow_defs.specs.Tables.{Values, join}
use Rattle.plain_machine.specs.Images.{cut_of}
use Rattle.plain_machine.specs.Worth.{worth}
use Rattle.job_start.specs.declared.start.Start.{Start}
use Rattle.outside.specs.Faults.{HasRisen}
use Rattle.outside.specs.Keepers.{KeptImage}
use Rattle.outside.specs.Stops.{first_met}
use Rattle.outside.specs.declared.stop.StopEntry.{StopEntry}
use Rattle.snapshot_channel.specs.declared.opened.SnapshotChannel.{SnapshotChannel}
use Rattle.snapshot_channel.specs.Passes.{IsCollecting}
use Rattle.collecting_worker.specs.declared.world.CollectEnd.{CollectEnd}
use Rattle.job_chain.specs.Ran.{IsRunBase}
use Rattle.job_workers.specs.declared.collecting.CollectTask.{CollectTask}
use Rattle.job_workers.specs.declared.place.Place.{Place}
use Rattle.job_workers.specs.declared.place.Place.TheVariants.{Ended}
use Rattle.job_workers.specs.declared.task.TaskLeft.{TaskLeft}
use Rattle.job_ends.specs.Ended.{TaskPlace, LoopPlace, LinksTell, left_in, left_at}
use Rattle.job_outcome.specs.Outcomes.{AllDone, HasEnded, AreTold, AreWithinFrom, ComeBack, IsRunCause}
use Rattle.job_outcome.specs.Storing.{EndsFrom, HasKept, StoredFrom, TooLargeFrom}
use Rattle.job_outcome.specs.Words.{WorldWords}

-- ---- what workers left

module _ {S : Type 0} where
  -- The input that stands in a place.
  abbrev pub input_in : TaskPlace S → Option S
  input_in place = option_and_then (λ (end : TaskLeft S). end.input) (left_in place)

  -- Each task of the sources left an input.
  abbrev pub HaveInputs : Job → List (Items (TaskPlace S)) → Type 0
  HaveInputs job rows = (a : ℕ) → a < tasks job 0 → (end : TaskLeft S) × ((input : S) × (left_at rows 0 a ≡ Some end) × (end.input ≡ Some input))

-- The worker that collects has ended with its pass of the channel of snapshots, and where it is done with a last image.
pub record HasCollected (channel : SnapshotChannel) (collected : Place CollectTask CollectEnd) : Type 0 where
  pub end : CollectEnd
  pub end_is : collected ≡ Ended end
  pub collecting : IsCollecting channel end.collecting
  pub last : end.cause ≡ Done → IsSome end.last

-- ---- what is answered

-- The table is that of the tables of this image, joined.
pub record IsTableOf (job : Job) (last : Option Image) (table : Values) : Type 0 where
  pub image : Image
  pub image_is : last ≡ Some image
  pub table_is : table ≡ join job.agg image.tables.items

-- It is that of the image that was stored last.
pub record IsJoined (job : Job) (collected : Place CollectTask CollectEnd) (table : Values) : Type 0 where
  pub end : CollectEnd
  pub end_is : collected ≡ Ended end
  pub table_of : IsTableOf job end.last table

-- A run has no table for the cause with which its workers ended, or for want of memory.
abbrev pub IsFaultOf : Cause → Cause → Type 0
IsFaultOf cause fault = (fault ≡ Memory) ⊎ ((fault ≡ cause) × (fault ≢ Done))

module _ {S O I : Type 0} (job : Job) (rows : List (Items (TaskPlace S))) (loops : List (Items (LoopPlace O I))) (collected : Place CollectTask CollectEnd) where
  -- A table comes of workers that are all done. Another answer is the first fault of the history that the stop cell tells, for which one of them
  -- ended, or want of memory.
  pub record IsAnswer (met : List (ℕ × StopEntry)) (result : Result Values Cause) : Type 0 where
    pub table : IfOk result (λ table. AllDone rows loops collected × IsJoined job collected table)
    pub cause : IfErr result (λ cause. (cause ≡ Memory) ⊎ (HasEnded rows loops collected cause × (cause ≢ Done) × (cause ≢ Stopped) × (first_met met ≡ Some cause)))

-- ---- the run

-- The course of a run as who starts it sees it: from where it goes on, behind how many lines it has checkpoints, its inputs before and after, which
-- images its keeper told before and after, and how many faults the keeper had counted.
pub record Course (S : Type 0) : Type 0 where
  pub job : Job
  pub start : Start
  pub every : Option ℕ
  pub before : List S
  pub after : List S
  pub kept : Option (List KeptImage)
  pub keeps : Option (List KeptImage)
  pub fell : ℕ
  pub rose : ℕ

-- The images from which it may go on over these bytes.
abbrev pub bases_over : {S : Type 0} → Course S → (ℕ → List ℕ) → Image → Type 0
bases_over course bytes = IsRunBase course.job course.start (λ a. lines (bytes a))

module _ {S O I L N : Type 0} (words : WorldWords S O I L N) where
  -- It holds of the bytes of the inputs, where links and inputs tell their bytes, and so of each of these images.
  abbrev pub WhereTold : List S → ((ℕ → List ℕ) → Type 0) → Type 0
  WhereTold inputs P = LinksTell words.sent words.got → (bytes : ℕ → List ℕ) → AreTold words.left inputs bytes → P bytes

  abbrev pub WhereBased : Course S → ((ℕ → List ℕ) → Image → Type 0) → Type 0
  WhereBased course P = WhereTold course.before (λ bytes. (base : Image) → bases_over course bytes base → P bytes base)

  -- An image behind those that the keeper got is too large.
  abbrev pub TellsLargeImage : Course S → Type 0
  TellsLargeImage course = WhereTold course.before (λ bytes. TooLargeFrom (bases_over course bytes) course.job (λ a. lines (bytes a)) course.every course.kept course.keeps)

  -- The grounds of a cause in such a course.
  abbrev pub HasItsGrounds : Course S → Type 0 → (PeerFault → Type 0) → Cause → Type 0
  HasItsGrounds course link peer =
      IsRunCause words.left words.faults course.before course.after link peer (HasRisen course.fell course.rose) (TellsLargeImage course)

  -- A run of this course: where links and inputs tell their bytes, its table is what an image is worth from which it may go on. Its cause has its
  -- grounds, and the inputs come back. Whatever it answers, the keeper got some images, and they are a chain where links and inputs tell their
  -- bytes; a table is that of the last one.
  pub record IsRun (course : Course S) (link : Type 0) (peer : PeerFault → Type 0) (result : Result Values Cause) : Type 0 where
    pub worth_is : IfOk result (λ table. WhereBased course (λ bytes base. AreWithinFrom course.job base bytes × (table ≡ worth course.job (λ a. lines (bytes a)) (cut_of course.job base))))
    pub cause : IfErr result (HasItsGrounds course link peer)
    pub inputs : ComeBack words.faults course.before course.after
    pub chain : WhereBased course (λ bytes base. StoredFrom (bases_over course bytes) course.job (λ a. lines (bytes a)) course.every course.kept course.keeps)
    pub kept_some : (images : List Image) × HasKept course.kept course.keeps images
    pub last : IfOk result (λ table. WhereBased course (λ bytes base. EndsFrom (bases_over course bytes) course.job (λ a. lines (bytes a)) course.every course.kept course.keeps table))
    pub never_falls : course.fell ≤ course.rose
