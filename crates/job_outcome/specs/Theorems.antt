-- What follows once all workers of a job have ended, whatever the order of their turns. This is this project's own choice.
use Rattle.std.specs.Prelude.{◌≡◌, ◌≢◌, ℕ, suc, ◌≤◌, List, All, length, slice_get, Option, Some, None, IfSome, IsSome}
use Rattle.std.specs.List.{last_or}
use Rattle.flow_defs.specs.Items.{Items}
use Rattle.flow_defs.specs.declared.cause.Cause.{Cause}
use Rattle.flow_defs.specs.declared.cause.Cause.TheVariants.{Done, Stopped}
use Rattle.flow_defs.specs.declared.job.Job.{Job}
use Rattle.flow_defs.specs.Jobs.{IsJob, last_edge, tasks}
use Rattle.flow_defs.specs.Lines.{lines}
use Rattle.flow_defs.specs.Tables.{join}
use Rattle.flow_defs.specs.declared.image.Image.{Image}
use Rattle.plain_machine.specs.Worth.{worth}
use Rattle.plain_machine.specs.Images.{cut_of}
use Rattle.job_start.specs.declared.start.Start.{Start}
use Rattle.outside.specs.declared.wires.Wire.{Wire}
use Rattle.outside.specs.Links.{IsNewOut, IsNewIn, NeverFails}
use Rattle.outside.specs.Keepers.{KeptImage}
use Rattle.outside.specs.Faults.{HasRisen}
use Rattle.snapshot_channel.specs.declared.opened.SnapshotChannel.{SnapshotChannel}
use Rattle.snapshot_channel.specs.Passes.{opening_of, received_by}
use Rattle.collecting_worker.specs.declared.world.CollectEnd.{CollectEnd}
use Rattle.job_cells.specs.declared.edge.Edge.{Edge}
use Rattle.job_cells.specs.Edges.{AreEdgesOf}
use Rattle.job_chain.specs.Ran.{IsRunBase}
use Rattle.job_workers.specs.declared.collecting.CollectTask.{CollectTask}
use Rattle.job_workers.specs.declared.place.Place.{Place}
use Rattle.job_workers.specs.declared.place.Place.TheVariants.{Ended}
use Rattle.job_workers.specs.declared.task.TaskLeft.{TaskLeft}
use Rattle.job_workers.specs.Collecting.{LeftByCollector}
use Rattle.job_workers.specs.Loops.{LeftByLoop}
use Rattle.job_workers.specs.Places.{Pairs, RowLeaves}
use Rattle.job_workers.specs.Tasks.{LeftByTask}
use Rattle.job_deploy.specs.Deployed.{AreDeployed}
use Rattle.job_ends.specs.Edges.{EdgeCarries}
use Rattle.job_ends.specs.Ended.{TaskPlace, LoopPlace, left_at, own_at, gate_at, AreEnded, AreReceived, HasLinkFault, HaveAcknowledged}
use Rattle.job_outcome.specs.Grounds.{HasPeerFault}
use Rattle.job_outcome.specs.Outcomes.{AllDone, HasEnded, AreTold, AreWithinFrom, IsRunCause}
use Rattle.job_outcome.specs.Storing.{HasKept, StoredFrom, TooLargeFrom}
use Rattle.job_outcome.specs.Words.{LinkWords, WorldWords}

-- Each input was left by its task, with no fewer faults.
abbrev pub AreInputsLeft : {S : Type 0} → (S → ℕ) → List S → List (Items (TaskPlace S)) → Type 0
AreInputsLeft {S} faults inputs rows = (a : ℕ) (input : S) → slice_get inputs a ≡ Some input →
    (end : TaskLeft S) × ((after : S) × (left_at rows 0 a ≡ Some end) × (end.input ≡ Some after) × (faults input ≤ faults after))

-- These are the inputs that the tasks left, in order.
abbrev pub AreLeftIn : {S : Type 0} → List (Items (TaskPlace S)) → List S → Type 0
AreLeftIn {S} rows after = (a : ℕ) (end : TaskLeft S) (input : S) → left_at rows 0 a ≡ Some end → end.input ≡ Some input → slice_get after a ≡ Some input

-- No end of the link of one that never fails has counted a fault.
abbrev pub AreFaultless : {H L : Type 0} → (H → L) → (H → ℕ) → (H → Type 0) → Type 0
AreFaultless {H} line faults never_fails = (old new : H) → never_fails old → line new ≡ line old → faults new ≡ 0

-- What is settled once workers have ended: each edge carries, and of each task's snapshots the first ones were received.
pub record AreSettledWith {S : Type 0} (job : Job) (rows : List (Items (TaskPlace S))) (end : CollectEnd) : Type 0 where
  pub edges : (e : ℕ) → e ≤ last_edge job → EdgeCarries job e (own_at rows e) (gate_at rows e)
  pub received : AreReceived job (received_by end.collecting) rows

-- ---- what ran

-- Nothing went over a wire yet, and the ends of its link for data belong together. Of those of its link for control nothing is said.
pub record IsNewWire {O I L N : Type 0} (links : LinkWords O I L N) (wire : Wire O I) : Type 0 where
  pub belonged : links.belong (links.line wire.data_out) (links.end_line wire.data_in)
  pub data_out : IsNewOut (links.sent wire.data_out) (links.finished wire.data_out) (links.of_out wire.data_out)
  pub data_in : IsNewIn (links.got wire.data_in) (links.ended wire.data_in) (links.of_in wire.data_in)
  pub control_out : IsNewOut (links.sent wire.control_out) (links.finished wire.control_out) (links.of_out wire.control_out)
  pub control_in : IsNewIn (links.got wire.control_in) (links.ended wire.control_in) (links.of_in wire.control_in)

-- From where the tasks go on for which a channel of snapshots is opened.
abbrev pub start_of : SnapshotChannel → Start
start_of channel = (opening_of channel).start

-- A run of a job: the size of its segments, behind how many lines it has checkpoints, its channel of snapshots, its edges, its inputs and its wires;
-- which images the keeper told before and after, and how many faults it had counted; and what each worker left in its place.
pub record Run (S O I : Type 0) : Type 0 where
  pub job : Job
  pub size : ℕ
  pub every : Option ℕ
  pub snapshots : SnapshotChannel
  pub edges : List Edge
  pub inputs : List S
  pub wires : List (Wire O I)
  pub before : Option (List KeptImage)
  pub after : Option (List KeptImage)
  pub fell : ℕ
  pub rose : ℕ
  pub rows : List (Items (TaskPlace S))
  pub loops : List (Items (LoopPlace O I))
  pub collected : Place CollectTask CollectEnd

-- The images from which it may go on over these bytes.
abbrev pub bases_of : {S O I : Type 0} → Run S O I → (ℕ → List ℕ) → Image → Type 0
bases_of run bytes = IsRunBase run.job (start_of run.snapshots) (λ a. lines (bytes a))

-- The workers that were deployed for it stand in these places.
abbrev pub AreWorkersOf : {S O I : Type 0} → Run S O I → List (Items (TaskPlace S)) → List (Items (LoopPlace O I)) → Type 0
AreWorkersOf run = AreDeployed run.job run.size run.every run.snapshots run.edges run.inputs run.wires

module _ {S O I L N : Type 0} (words : WorldWords S O I L N) where
  -- Its workers were deployed over new wires, and what each left stands in its place.
  pub record HaveRun (run : Run S O I) : Type 0 where
    pub is_job : IsJob run.job
    pub edges_are : AreEdgesOf run.job run.size run.edges
    pub inputs_many : length run.inputs ≡ tasks run.job 0
    pub wires_many : length run.wires ≡ suc (last_edge run.job)
    pub new_wires : All (IsNewWire words.links) run.wires
    pub rows_before : List (Items (TaskPlace S))
    pub loops_before : List (Items (LoopPlace O I))
    pub deployed : AreWorkersOf run rows_before loops_before
    pub rows_many : length run.rows ≡ length rows_before
    pub rows_left : Pairs (λ (old new : Items (TaskPlace S)). RowLeaves (LeftByTask words.left words.faults run.job) old.items new.items) rows_before run.rows
    pub loops_many : length run.loops ≡ length loops_before
    pub loops_left : Pairs (λ (old new : Items (LoopPlace O I)). RowLeaves (LeftByLoop words.line words.sent words.of_out words.end_line words.got words.ended words.of_in) old.items new.items) loops_before run.loops
    pub task : CollectTask
    pub task_is : (task.world.job.now ≡ run.job) × (task.every ≡ run.every) × (task.world.snapshots.now ≡ run.snapshots) × (task.start.now ≡ start_of run.snapshots)
    pub interval : IfSome run.every (λ n. 1 ≤ n)
    pub end : CollectEnd
    pub end_is : run.collected ≡ Ended end
    pub collector : LeftByCollector run.before run.after run.fell run.rose task end

  -- ---- the theorems

  -- Workers that ran have ended, each with the passes of its place.
  abbrev pub WorkersEnd : Type 0
  WorkersEnd = (run : Run S O I) → HaveRun run →
      AreEnded (λ out input. words.belong (words.line out) (words.end_line input)) words.sent words.got run.job run.size run.edges run.rows run.loops
      × HaveAcknowledged run.job run.snapshots run.rows

  -- Whatever the causes with which they ended, the images that were stored are a chain, and the one that was handed back is the last of them.
  abbrev pub StoredImagesAreChain : Type 0
  StoredImagesAreChain = (run : Run S O I) (end : CollectEnd) (bytes : ℕ → List ℕ) (base : Image) → HaveRun run → bases_of run bytes base →
      run.collected ≡ Ended end → AreTold words.left run.inputs bytes → AreSettledWith run.job run.rows end →
      (stored : StoredFrom (bases_of run bytes) run.job (λ a. lines (bytes a)) run.every run.before run.after) × (end.last ≡ last_or None stored.images)

  -- Without what is told: the images that the keeper told before stay, some come behind them, and its count of faults never falls.
  abbrev pub KeeperGotImages : Type 0
  KeeperGotImages = (run : Run S O I) → HaveRun run → ((images : List Image) × HasKept run.before run.after images) × (run.fell ≤ run.rose)

  -- Where all are done, the last image is marked so, its tables joined are what the base is worth over what the inputs told, and that is within
  -- its limits from there on.
  abbrev pub DoneWorkersHaveWorth : Type 0
  DoneWorkersHaveWorth = (run : Run S O I) (end : CollectEnd) (bytes : ℕ → List ℕ) (base image : Image) → HaveRun run → bases_of run bytes base →
      run.collected ≡ Ended end → end.last ≡ Some image → AllDone run.rows run.loops run.collected → AreTold words.left run.inputs bytes →
      AreSettledWith run.job run.rows end →
      (join run.job.agg image.tables.items ≡ worth run.job (λ a. lines (bytes a)) (cut_of run.job base)) × AreWithinFrom run.job base bytes

  -- Where the collecting worker is done, it has a last image.
  abbrev pub DoneCollectorHasLast : Type 0
  DoneCollectorHasLast = (run : Run S O I) (end : CollectEnd) → HaveRun run → run.collected ≡ Ended end → end.cause ≡ Done → IsSome end.last

  -- The tasks of the sources leave the inputs that they were given.
  abbrev pub InputsComeBack : Type 0
  InputsComeBack = (run : Run S O I) → HaveRun run → AreInputsLeft words.faults run.inputs run.rows

  -- An image behind those that the keeper got is too large, as far as the inputs tell their bytes.
  abbrev pub HasLargeImage : Run S O I → Type 0
  HasLargeImage run = (end : CollectEnd) (bytes : ℕ → List ℕ) → run.collected ≡ Ended end → AreTold words.left run.inputs bytes →
      AreSettledWith run.job run.rows end → TooLargeFrom (bases_of run bytes) run.job (λ a. lines (bytes a)) run.every run.before run.after

  -- The grounds of a cause in a run whose inputs are these afterwards.
  abbrev pub HasGrounds : Run S O I → List S → Cause → Type 0
  HasGrounds run after =
      IsRunCause words.left words.faults run.inputs after (HasLinkFault words.of_out words.of_in run.loops)
      (HasPeerFault words.sent words.got words.ended run.job run.loops) (HasRisen run.fell run.rose) (HasLargeImage run)

  -- A cause with which one of them ended has its grounds.
  abbrev pub CausesHaveGrounds : Type 0
  CausesHaveGrounds = (run : Run S O I) (after : List S) (cause : Cause) → HaveRun run → AreLeftIn run.rows after → length after ≡ length run.inputs →
      HasEnded run.rows run.loops run.collected cause → cause ≢ Done → cause ≢ Stopped → HasGrounds run after cause

  -- Over wires of which no end is to fail, no loop has counted a fault.
  abbrev pub SureWiresHaveNoFault : (O → Type 0) → (I → Type 0) → Type 0
  SureWiresHaveNoFault sure_out sure_in = (run : Run S O I) → HaveRun run → All (NeverFails sure_out sure_in) run.wires →
      HasLinkFault words.of_out words.of_in run.loops → ⊥
