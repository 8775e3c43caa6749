-- What the worker has at hand while it gathers the snapshots of a checkpoint. That those of a later one wait in a list is this project's
-- own choice.
use Rattle.std.specs.Prelude.{◌≡◌, ◌≢◌, ◌⊎◌, ℕ, ◌+◌, ◌<◌, ◌≤◌, ⊤, Bool, true, List, length, All, AllPairs, Contains, Option, Some, None}
use Rattle.turn_cell.specs.History.{StartsWith}
use Rattle.flow_defs.specs.declared.job.Job.{Job}
use Rattle.flow_defs.specs.declared.image.Image.{Image}
use Rattle.flow_defs.specs.declared.image.Snapshot.{Snapshot}
use Rattle.flow_defs.specs.Jobs.{tasks}
use Rattle.job_start.specs.declared.start.Start.{Start}
use Rattle.job_start.specs.Starts.{was_ended, all_were_ended}
use Rattle.checkpoint_laws.specs.Chapters.{task_at}
use Rattle.collector.specs.declared.collector.Checkpoint.{Checkpoint}
use Rattle.collector.specs.declared.collector.Collector.{Collector}
use Rattle.collector.specs.Collecting.{IsCollector, acknowledged}
use Rattle.collector.specs.Fitting as fitting
use Rattle.collector.specs.Fitting.{IsSnapshotOf}
use Rattle.collector.specs.Images.{IsImageOf}
use Rattle.snapshot_channel.specs.Snapshots.{IsTask, FitsTask, snapshots_of}
use Rattle.snapshot_channel.specs.Passes.{IsCollecting, opening, opening_of, received_by}
use Rattle.collecting_worker.specs.declared.gathering.Gathering.{Gathering}
use Rattle.collecting_worker.specs.Images.{IsSnapshotFor}

-- ---- what was received

-- The snapshots of each task are numbered one by one behind the start, and fit it. A source stays at its end, where it may have been in the
-- start, and with no interval it is there at once.
pub record AreReceived (job : Job) (start : Start) (every : Option ℕ) (received : List Snapshot) : Type 0 where
  pub fit : (x : Snapshot) → Contains received x → IsTask job x.task × FitsTask job x
  pub numbers : (x : Snapshot) → Contains received x → x.number ≤ start.number + length (snapshots_of x.task received)
  pub stay_ended : (x y : Snapshot) → Contains received x → Contains received y → x.task ≡ y.task → y.task.stage ≡ 0 → x.number < y.number → x.ended ≡ true → y.ended ≡ true
  pub were_ended : (x : Snapshot) → Contains received x → x.task.stage ≡ 0 → was_ended start x.task.index ≡ true → x.ended ≡ true
  pub all_ended : every ≡ None → (x : Snapshot) → Contains received x → x.task.stage ≡ 0 → x.ended ≡ true

-- They are not snapshots of one task for one checkpoint.
abbrev pub AreTwo : Snapshot → Snapshot → Type 0
AreTwo x y = x.task ≡ y.task → x.number ≢ y.number

-- Source a was at its end before checkpoint k.
pub record HadEnded (received : List Snapshot) (a k : ℕ) : Type 0 where
  pub snapshot : Snapshot
  pub received_it : Contains received snapshot
  pub task_is : snapshot.task ≡ task_at 0 a
  pub before : snapshot.number < k
  pub ended : snapshot.ended ≡ true

-- Whether the first checkpoint behind the start is the last one: there is no interval, or all sources were at their ends in the start.
abbrev pub first_is_last : Start → Option ℕ → Bool
first_is_last start None = true
first_is_last start (Some interval) = all_were_ended start

-- Checkpoint k may be the last one: there is no interval, or all sources were at their ends before it, in the start or by what they told.
abbrev pub MayBeLast : Job → Start → Option ℕ → List Snapshot → ℕ → Type 0
MayBeLast job start None received k = ⊤
MayBeLast job start (Some interval) received k = (a : ℕ) → a < tasks job 0 → (was_ended start a ≡ true) ⊎ HadEnded received a k

-- ---- the worker between two checkpoints, and in one

abbrev pub job_of : Gathering → Job
job_of g = g.collector.job.now

abbrev pub start_of : Gathering → Start
start_of g = (opening_of g.channel.now).start

abbrev pub every_of : Gathering → Option ℕ
every_of g = (opening_of g.channel.now).every

-- Its pass is of its channel, which is opened for the job of its collector, and the snapshots that wait were received each once.
pub record IsGathering (g : Gathering) : Type 0 where
  pub collector : IsCollector g.collector
  pub pass : IsCollecting g.channel.now g.pass
  pub opening_is : opening_of g.channel.now ≡ opening (job_of g) (start_of g) (every_of g)
  pub received : AreReceived (job_of g) (start_of g) (every_of g) (received_by g.pass)
  pub ahead : All (Contains (received_by g.pass)) g.ahead.items
  pub once : AllPairs AreTwo g.ahead.items

-- It is for a checkpoint before k, or it waits, or its task has acknowledged with it.
abbrev pub IsSnapshotKept : ℕ → Gathering → Snapshot → Type 0
IsSnapshotKept k g x = (x.number < k) ⊎ (Contains g.ahead.items x ⊎ (acknowledged g.collector x.task.stage x.task.index ≡ Some x))

-- No checkpoint is open, and those that were received for checkpoint k or a later one wait.
pub record IsBetween (k : ℕ) (g : Gathering) : Type 0 where
  pub gathering : IsGathering g
  pub closed : g.collector.opened ≡ None
  pub kept : (x : Snapshot) → Contains (received_by g.pass) x → (x.number < k) ⊎ Contains g.ahead.items x

-- Its task has not acknowledged yet, where it is for checkpoint k.
abbrev pub IsMissing : Collector → ℕ → Snapshot → Type 0
IsMissing collector k x = x.number ≡ k → acknowledged collector x.task.stage x.task.index ≡ None

-- The checkpoint is open, and those that wait for it are missing there.
pub record HasOpen (checkpoint : Checkpoint) (g : Gathering) : Type 0 where
  pub gathering : IsGathering g
  pub opened : g.collector.opened ≡ Some checkpoint
  pub last : checkpoint.final_one ≡ true → MayBeLast (job_of g) (start_of g) (every_of g) (received_by g.pass) checkpoint.number
  pub acknowledged_are : (i a : ℕ) (x : Snapshot) → fitting.IsTask (job_of g) i a → acknowledged g.collector i a ≡ Some x → IsSnapshotFor (received_by g.pass) i a checkpoint.number x
  pub missing : All (IsMissing g.collector checkpoint.number) g.ahead.items

-- And no snapshot that was received is lost.
pub record IsOpen (checkpoint : Checkpoint) (g : Gathering) : Type 0 where
  pub has_open : HasOpen checkpoint g
  pub kept : (x : Snapshot) → Contains (received_by g.pass) x → IsSnapshotKept checkpoint.number g x

-- A snapshot was received, and is neither acknowledged nor waits. No other one is lost.
pub record IsInHand (checkpoint : Checkpoint) (g : Gathering) (x : Snapshot) : Type 0 where
  pub is_open : HasOpen checkpoint g
  pub received_it : Contains (received_by g.pass) x
  pub missing : IsMissing g.collector checkpoint.number x
  pub other : All (AreTwo x) g.ahead.items
  pub kept : (y : Snapshot) → Contains (received_by g.pass) y → IsSnapshotKept checkpoint.number g y ⊎ (x ≡ y)

-- It gathers for the same job from the same channel, and what was received is so still.
pub record IsSameGathering (old new : Gathering) : Type 0 where
  pub job_is : new.collector.job ≡ old.collector.job
  pub channel_is : new.channel ≡ old.channel
  pub received : StartsWith (received_by new.pass) (received_by old.pass)

-- ---- what comes of it

-- The image is of the checkpoint, and is made of a snapshot of each task for it, which were received.
pub record IsComplete (job : Job) (received : List Snapshot) (checkpoint : Checkpoint) (image : Image) : Type 0 where
  pub snapshot : ℕ → ℕ → Snapshot
  pub image_is : IsImageOf job checkpoint.number checkpoint.final_one snapshot image
  pub fit : (i a : ℕ) → fitting.IsTask job i a → IsSnapshotOf job checkpoint.final_one i a (snapshot i a)
  pub each : (i a : ℕ) → fitting.IsTask job i a → IsSnapshotFor received i a checkpoint.number (snapshot i a)
