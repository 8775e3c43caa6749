-- Where the workers of a job stand, and what they are lent. As in Flink a job's graph is deployed task by task. Which worker stands at which
-- place is this project's own choice.
use Rattle.std.specs.Prelude.{◌≡◌, ℕ, suc, ◌<◌, List, [], ◌∷◌, length, slice_get, All, Option, Some}
use Rattle.turn_cell.specs.Passes.{seen}
use Rattle.flow_defs.specs.Items.{Items}
use Rattle.flow_defs.specs.declared.job.Job.{Job}
use Rattle.flow_defs.specs.Jobs.{last_edge, tasks}
use Rattle.outside.specs.declared.wires.Wire.{Wire}
use Rattle.conn_parts.specs.Shares.{AreNew}
use Rattle.conn_send_items.specs.Sending.{MaySendItems}
use Rattle.conn_read_control.specs.Controlling.{MayReadControl}
use Rattle.conn_read_items.specs.Receiving.{MayReadItems}
use Rattle.conn_send_control.specs.Announcing.{MaySendControl}
use Rattle.record_writer.specs.declared.partition.Partition.{Partition}
use Rattle.record_writer.specs.Writers.{SendPass, ways_into}
use Rattle.snapshot_channel.specs.declared.opened.SnapshotChannel.{SnapshotChannel}
use Rattle.task_output.specs.declared.world.World.{World}
use Rattle.input_gate.specs.Channels.{cells_in}
use Rattle.input_gate.specs.Turning.{InputCell}
use Rattle.job_cells.specs.declared.edge.Edge.{Edge}
use Rattle.job_cells.specs.Edges.{channels_on, place_into}
use Rattle.job_workers.specs.declared.connection.ConnLoop.{ConnLoop}
use Rattle.job_workers.specs.declared.connection.ConnLoop.TheVariants.{SendItems, ReadControl, ReadItems, SendControl}
use Rattle.job_workers.specs.declared.connection.LoopLeft.{LoopLeft}
use Rattle.job_workers.specs.declared.connection.LoopWork.{LoopWork}
use Rattle.job_workers.specs.declared.place.Place.{Place}
use Rattle.job_workers.specs.declared.place.Place.TheVariants.{Todo}
use Rattle.job_workers.specs.declared.task.SourceTask.{SourceTask}
use Rattle.job_workers.specs.declared.task.StageTask.{StageTask}
use Rattle.job_workers.specs.declared.task.AggregateTask.{AggregateTask}
use Rattle.job_workers.specs.declared.task.Task.{Task}
use Rattle.job_workers.specs.declared.task.Task.TheVariants.{Source, Stage, Aggregate}
use Rattle.job_workers.specs.declared.task.TaskLeft.{TaskLeft}
use Rattle.job_workers.specs.Tasks.{MayRunSource, MayRunStage, MayRunAggregate}

abbrev pub TaskPlace : Type 0 → Type 0
TaskPlace S = Place (Task S) (TaskLeft S)

abbrev pub LoopPlace : Type 0 → Type 0 → Type 0
LoopPlace O I = Place (ConnLoop O I) (LoopLeft O I)

-- The job and its edges, with segments of this size, and what all its tasks are lent for checkpoints: how many lines a source reads
-- between two of them, and the channel of snapshots.
module _ (job : Job) (size : ℕ) (every : Option ℕ) (snapshots : SnapshotChannel) (edges : List Edge) where
  -- ---- what a task is lent

  -- The partition of task a before edge e, over the cells of that edge.
  pub record IsPartitionAt (e a : ℕ) (partition : Partition) : Type 0 where
    pub edge : Edge
    pub stands : slice_get edges e ≡ Some edge
    pub cells : partition.subpartitions.now ≡ edge.subpartitions.items
    pub first : partition.first ≡ a
    pub stride : partition.stride ≡ tasks job e
    pub size_is : partition.size ≡ size

  -- It is told that interval, and lent that channel.
  pub record IsLentOf {P : Type 0} (told : Option ℕ) (world : World P) : Type 0 where
    pub every_is : told ≡ every
    pub channel : world.acks.snapshots.now ≡ snapshots

  -- The cells of the gate of task b behind edge e, among those of that edge.
  pub record IsGateAt (e b : ℕ) (cells : List InputCell) : Type 0 where
    pub edge : Edge
    pub stands : slice_get edges e ≡ Some edge
    pub many : length cells ≡ ways_into job e
    pub each : (i : ℕ) (cell : InputCell) → slice_get cells i ≡ Some cell → slice_get edge.inputs.items (place_into job e b i) ≡ Some cell

  -- ---- the tasks

  -- The source of index a reads its input.
  pub record IsSourceAt {S : Type 0} (inputs : List S) (a : ℕ) (task : SourceTask S) : Type 0 where
    pub index : task.index ≡ a
    pub input : slice_get inputs a ≡ Some task.input
    pub partition : IsPartitionAt 0 a task.world.partition
    pub lent : IsLentOf task.every task.world
    pub may : MayRunSource job task

  -- Task b behind edge e.
  pub record IsStageAt (e b : ℕ) (task : StageTask) : Type 0 where
    pub edge : task.edge ≡ e
    pub index : task.index ≡ b
    pub gate : IsGateAt e b (cells_in task.gate.lanes)
    pub partition : IsPartitionAt (suc e) b task.world.partition
    pub lent : IsLentOf task.every task.world
    pub may : MayRunStage job task

  -- Task b of the aggregate.
  pub record IsAggregateAt (b : ℕ) (task : AggregateTask) : Type 0 where
    pub index : task.index ≡ b
    pub gate : IsGateAt (last_edge job) b (cells_in task.gate.lanes)
    pub lent : IsLentOf task.every task.world
    pub may : MayRunAggregate job task

  module _ {S : Type 0} where
    -- The tasks of a stage stand in a row, each at the place with its index.
    pub record AreSources (inputs : List S) (row : List (TaskPlace S)) : Type 0 where
      pub many : length row ≡ tasks job 0
      pub each : (a : ℕ) (place : TaskPlace S) → slice_get row a ≡ Some place → (task : SourceTask S) × (place ≡ Todo (Source task)) × IsSourceAt inputs a task

    pub record AreStage (e : ℕ) (row : List (TaskPlace S)) : Type 0 where
      pub many : length row ≡ tasks job (suc e)
      pub each : (b : ℕ) (place : TaskPlace S) → slice_get row b ≡ Some place → (task : StageTask) × (place ≡ Todo (Stage task)) × IsStageAt e b task

    pub record AreAggregates (row : List (TaskPlace S)) : Type 0 where
      pub many : length row ≡ tasks job (suc (last_edge job))
      pub each : (b : ℕ) (place : TaskPlace S) → slice_get row b ≡ Some place → (task : AggregateTask) × (place ≡ Todo (Aggregate task)) × IsAggregateAt b task

-- ---- the loops

-- The four loops of edge e over this wire, in their order.
pub record AreLoopsAt {O I : Type 0} (job : Job) (e : ℕ) (edge : Edge) (wire : Wire O I) (row : List (LoopPlace O I)) : Type 0 where
  pub send : LoopWork O
  pub control : LoopWork I
  pub items : LoopWork I
  pub announce : LoopWork O
  pub row_is : row ≡ Todo (SendItems send) ∷ Todo (ReadControl control) ∷ Todo (ReadItems items) ∷ Todo (SendControl announce) ∷ []
  pub sending : (send.half ≡ wire.data_out) × (control.half ≡ wire.control_in)
  pub receiving : (items.half ≡ wire.data_in) × (announce.half ≡ wire.control_out)
  pub channels : (send.share.channels.now ≡ channels_on job e) × (items.share.channels.now ≡ channels_on job e)
  pub cells : (send.share.subpartitions.now ≡ edge.subpartitions.items) × (items.share.inputs.now ≡ edge.inputs.items)
  pub unseen : All (λ (pass : SendPass). seen pass ≡ []) send.share.passes.subpartitions.items
  pub new : AreNew items.share.passes.inputs.items
  pub may_send : MaySendItems send.share × MayReadControl control.share
  pub may_receive : MayReadItems items.share × MaySendControl announce.share

-- ---- all of them

-- There is a row for each stage, and one for each edge.
pub record AreDeployed {S O I : Type 0} (job : Job) (size : ℕ) (every : Option ℕ) (snapshots : SnapshotChannel) (edges : List Edge) (inputs : List S) (wires : List (Wire O I)) (rows : List (Items (TaskPlace S))) (loop_rows : List (Items (LoopPlace O I))) : Type 0 where
  pub rows_many : length rows ≡ suc (suc (last_edge job))
  pub sources : (row : Items (TaskPlace S)) → slice_get rows 0 ≡ Some row → AreSources job size every snapshots edges inputs row.items
  pub stages : (e : ℕ) (row : Items (TaskPlace S)) → e < last_edge job → slice_get rows (suc e) ≡ Some row → AreStage job size every snapshots edges e row.items
  pub aggregates : (row : Items (TaskPlace S)) → slice_get rows (suc (last_edge job)) ≡ Some row → AreAggregates job size every snapshots edges row.items
  pub loops_many : length loop_rows ≡ suc (last_edge job)
  pub loops : (e : ℕ) (edge : Edge) (wire : Wire O I) (row : Items (LoopPlace O I)) →
      slice_get edges e ≡ Some edge → slice_get wires e ≡ Some wire → slice_get loop_rows e ≡ Some row → AreLoopsAt job e edge wire row.items
