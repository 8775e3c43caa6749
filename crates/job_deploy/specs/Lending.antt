-- What tasks are lent, task by task, over the edges of a job. This is this project's own choice.
use Rattle.std.specs.Prelude.{◌≡◌, ℕ, suc, ◌+◌, List, length, slice_get, Option, Some}
use Rattle.flow_defs.specs.declared.job.Job.{Job}
use Rattle.flow_defs.specs.Jobs.{tasks}
use Rattle.record_writer.specs.Partitions.{IsPartitionOf}
use Rattle.snapshot_channel.specs.declared.opened.SnapshotChannel.{SnapshotChannel}
use Rattle.job_cells.specs.declared.edge.Edge.{Edge}
use Rattle.job_workers.specs.declared.place.Place.TheVariants.{Todo}
use Rattle.job_workers.specs.declared.task.SourceTask.{SourceTask}
use Rattle.job_workers.specs.declared.task.StageTask.{StageTask}
use Rattle.job_workers.specs.declared.task.AggregateTask.{AggregateTask}
use Rattle.job_workers.specs.declared.task.Task.TheVariants.{Source, Stage, Aggregate}
use Rattle.task_output.specs.Acking.{IsLent}
use Rattle.job_deploy.specs.declared.senders.Senders.{Senders}
use Rattle.job_deploy.specs.declared.takers.Takers.{Takers}
use Rattle.job_deploy.specs.declared.tasks.SourceLent.{SourceLent}
use Rattle.job_deploy.specs.Deployed.{TaskPlace, IsPartitionAt, IsLentOf, IsStageAt, IsAggregateAt}
use Rattle.job_deploy.specs.Placing.{AreSenders, AreTakers}

-- Each of a list that stands from the last of so many on.
abbrev pub AreTurned : {A : Type 0} → (ℕ → A → Type 0) → ℕ → List A → Type 0
AreTurned P n xs = (j k : ℕ) (x : _) → j + suc k ≡ n → slice_get xs j ≡ Some x → P k x

module _ (job : Job) (edges : List Edge) where
  -- They are passes of edge e.
  pub record AreSendersAt (e : ℕ) (senders : Senders) : Type 0 where
    pub edge : Edge
    pub stands : slice_get edges e ≡ Some edge
    pub are : AreSenders job e edge senders

  pub record AreTakersAt (e : ℕ) (takers : Takers) : Type 0 where
    pub edge : Edge
    pub stands : slice_get edges e ≡ Some edge
    pub are : AreTakers job e edge takers

module _ (job : Job) (size : ℕ) (every : Option ℕ) (snapshots : SnapshotChannel) (edges : List Edge) where
  -- What the source of index a is lent, and each source.
  pub record IsLentAt (a : ℕ) (source : SourceLent) : Type 0 where
    pub at : IsPartitionAt job size every snapshots edges 0 a source.world.partition
    pub partition : IsPartitionOf job 0 a source.world.partition
    pub lent : IsLentOf job size every snapshots edges source.every source.world
    pub may : IsLent job 0 a source.start.now source.every source.world

  pub record AreLent (lents : List SourceLent) : Type 0 where
    pub many : length lents ≡ tasks job 0
    pub each : (a : ℕ) (lent : SourceLent) → slice_get lents a ≡ Some lent → IsLentAt a lent

  -- A task of a stage in its place.
  pub record IsStagePlace {S : Type 0} (e b : ℕ) (place : TaskPlace S) : Type 0 where
    pub task : StageTask
    pub is : place ≡ Todo (Stage task)
    pub at : IsStageAt job size every snapshots edges e b task

  pub record IsAggregatePlace {S : Type 0} (b : ℕ) (place : TaskPlace S) : Type 0 where
    pub task : AggregateTask
    pub is : place ≡ Todo (Aggregate task)
    pub at : IsAggregateAt job size every snapshots edges b task

-- The source of index a over its input, and each source.
pub record IsSourceOver {S : Type 0} (lents : List SourceLent) (inputs : List S) (a : ℕ) (place : TaskPlace S) : Type 0 where
  pub task : SourceTask S
  pub is : place ≡ Todo (Source task)
  pub index : task.index ≡ a
  pub input : slice_get inputs a ≡ Some task.input
  pub lent : slice_get lents a ≡ Some (record { start = task.start; every = task.every; world = task.world })

pub record AreSourcesOver {S : Type 0} (lents : List SourceLent) (inputs : List S) (row : List (TaskPlace S)) : Type 0 where
  pub many : length row ≡ length inputs
  pub each : (a : ℕ) (place : TaskPlace S) → slice_get row a ≡ Some place → IsSourceOver lents inputs a place
