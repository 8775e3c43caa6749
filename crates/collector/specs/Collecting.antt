-- What a collector holds, and what an acknowledgement comes to. As Flink's checkpoint coordinator it
-- completes a checkpoint with the last acknowledgement that is missing.
use Rattle.std.specs.Prelude.{◌≡◌, ℕ, suc, ◌==◌, ◌&&◌, List, length, slice_get, Option, Some, None, IsSomeAnd, if◌then◌else◌}
use Rattle.std.specs.Option.{option_map_or}
use Rattle.flow_defs.specs.declared.job.Job.{Job}
use Rattle.flow_defs.specs.declared.image.Image.{Image}
use Rattle.flow_defs.specs.declared.image.Snapshot.{Snapshot}
use Rattle.flow_defs.specs.Jobs.{last_edge, tasks, sum_below, IsJob}
use Rattle.plain_machine.specs.Places.{sender_place}
use Rattle.collector.specs.declared.collector.Collector.{Collector}
use Rattle.collector.specs.declared.collector.Checkpoint.{Checkpoint}
use Rattle.collector.specs.Fitting.{IsTask, FitsTask, IsSnapshotOf}
use Rattle.collector.specs.Images.{IsImageOf}

-- How many tasks a job has.
abbrev pub task_count : Job → ℕ
task_count job = sum_below (suc (suc (last_edge job))) (tasks job)

-- The snapshot at a place, if one stands there.
abbrev pub kept_at : List (Option Snapshot) → ℕ → Option Snapshot
kept_at slots place = option_map_or (λ (slot : Option Snapshot). slot) (slice_get slots place) None

-- What each task has acknowledged, by stage and index.
abbrev pub acknowledged : Collector → ℕ → ℕ → Option Snapshot
acknowledged collector i a = kept_at collector.snapshots.items (sender_place collector.job.now i a)

-- These acknowledgements, and this one.
abbrev pub and_one : (ℕ → ℕ → Option Snapshot) → Snapshot → ℕ → ℕ → Option Snapshot
and_one acks snapshot i a = if snapshot.task.stage == i && snapshot.task.index == a then Some snapshot else acks i a

-- Each task has acknowledged, with these snapshots.
abbrev pub AreAll : Job → (ℕ → ℕ → Option Snapshot) → (ℕ → ℕ → Snapshot) → Type 0
AreAll job acks snapshots = (i a : ℕ) → IsTask job i a → acks i a ≡ Some (snapshots i a)

-- The snapshot is one of this checkpoint, and fits its task.
pub record IsOfCheckpoint (job : Job) (snapshot : Snapshot) (checkpoint : Checkpoint) : Type 0 where
  pub number : snapshot.number ≡ checkpoint.number
  pub fits : FitsTask job checkpoint.final_one snapshot

-- A collector of a job: it has a place for each task, and there nothing or a snapshot of this task for
-- the checkpoint that is open. So where none is open, nothing is acknowledged.
pub record IsCollector (collector : Collector) : Type 0 where
  pub is_job : IsJob collector.job.now
  pub many : length collector.snapshots.items ≡ task_count collector.job.now
  pub each : (place : ℕ) (snapshot : Snapshot) → kept_at collector.snapshots.items place ≡ Some snapshot →
      (place ≡ sender_place collector.job.now snapshot.task.stage snapshot.task.index) × IsSomeAnd collector.opened (IsOfCheckpoint collector.job.now snapshot)

-- The snapshot may be acknowledged: it is of the checkpoint that is open, and its task has not acknowledged yet.
pub record IsDue (collector : Collector) (snapshot : Snapshot) : Type 0 where
  pub of_open : IsSomeAnd collector.opened (IsOfCheckpoint collector.job.now snapshot)
  pub missing : acknowledged collector snapshot.task.stage snapshot.task.index ≡ None

-- The snapshot is acknowledged, and not all are.
pub record IsOneMore (old : Collector) (snapshot : Snapshot) (new : Collector) : Type 0 where
  pub same_open : new.opened ≡ old.opened
  pub one_more : (i a : ℕ) → IsTask old.job.now i a → acknowledged new i a ≡ and_one (acknowledged old) snapshot i a
  pub not_all : (snapshots : ℕ → ℕ → Snapshot) → AreAll old.job.now (acknowledged new) snapshots → ⊥

-- The snapshot was the last one missing. The image is of all, and none is open.
pub record IsCompleted (old : Collector) (snapshot : Snapshot) (new : Collector) (image : Image) : Type 0 where
  pub closed : new.opened ≡ None
  pub snapshots : ℕ → ℕ → Snapshot
  pub all : AreAll old.job.now (and_one (acknowledged old) snapshot) snapshots
  pub made : IsSomeAnd old.opened (λ checkpoint.
      IsImageOf old.job.now checkpoint.number checkpoint.final_one snapshots image
      × ((i a : ℕ) → IsTask old.job.now i a → IsSnapshotOf old.job.now checkpoint.final_one i a (snapshots i a)))
