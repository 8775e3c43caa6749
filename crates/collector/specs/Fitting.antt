-- What a snapshot of a task of a job may hold. In Flink, too, a task acknowledges a checkpoint with its
-- state; which parts a kind of task has is this project's own choice.
use Rattle.std.specs.Prelude.{◌≡◌, ℕ, zero, suc, ◌<◌, ◌≤◌, Bool, true, List, []}
use Rattle.std.specs.List.{AllByRecursion}
use Rattle.flow_defs.specs.declared.job.Job.{Job}
use Rattle.flow_defs.specs.declared.image.TakeRun.{TakeRun}
use Rattle.flow_defs.specs.declared.image.Snapshot.{Snapshot}
use Rattle.flow_defs.specs.Jobs.{last_edge, tasks}
use Rattle.plain_machine.specs.Images.{AreRuns, HasShortKeys}
use Rattle.collector.specs.Pieces.{IsInto, IsOutOf}

-- The job has a task of this stage and index.
abbrev pub IsTask : Job → ℕ → ℕ → Type 0
IsTask job i a = (i ≤ suc (last_edge job)) × (a < tasks job i)

-- The takes of a task are runs of it. A source takes nothing.
abbrev pub AreTakes : Job → ℕ → ℕ → List TakeRun → Type 0
AreTakes job zero a runs = runs ≡ []
AreTakes job (suc e) b runs = AreRuns job e b runs

-- The snapshot fits its task, at a checkpoint that is the last one or not.
pub record FitsTask (job : Job) (final_one : Bool) (snapshot : Snapshot) : Type 0 where
  pub task : IsTask job snapshot.task.stage snapshot.task.index
  pub keys : HasShortKeys snapshot.table
  pub runs : AreTakes job snapshot.task.stage snapshot.task.index snapshot.takes.items
  pub saved_in : AllByRecursion (IsInto job snapshot.task.stage snapshot.task.index) snapshot.saved_in.items
  pub saved_out : AllByRecursion (IsOutOf job snapshot.task.stage snapshot.task.index) snapshot.saved_out.items
  pub ended : final_one ≡ true → snapshot.task.stage ≡ 0 → snapshot.ended ≡ true

-- It is a snapshot of this task, and fits it.
pub record IsSnapshotOf (job : Job) (final_one : Bool) (i a : ℕ) (snapshot : Snapshot) : Type 0 where
  pub stage : snapshot.task.stage ≡ i
  pub index : snapshot.task.index ≡ a
  pub fits : FitsTask job final_one snapshot
