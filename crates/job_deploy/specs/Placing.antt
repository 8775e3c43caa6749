-- What all tasks of a job share and the passes of its cells, as they are dealt to its workers, from the last of each kind on. This is this
-- project's own choice.
use Rattle.std.specs.Prelude.{◌≡◌, ℕ, suc, ◌+◌, ◌*◌, ◌≤◌, List, [], ◌∷◌, ◌++◌, length, map, slice_get, All, Some, IfSome}
use Rattle.turn_cell.specs.Passes.{IsPassOf, mine}
use Rattle.flow_defs.specs.Items.{Items}
use Rattle.flow_defs.specs.declared.job.Job.{Job}
use Rattle.flow_defs.specs.declared.task.TaskId.{TaskId}
use Rattle.flow_defs.specs.Jobs.{tasks}
use Rattle.input_gate.specs.Turning.{InputCell}
use Rattle.input_gate.specs.States.{PoolCell, PoolPass}
use Rattle.conn_parts.specs.Shares.{AreNew}
use Rattle.conn_parts.specs.Stopping.{StopCell, StopPass}
use Rattle.plain_machine.specs.Worth.{concat_below}
use Rattle.record_writer.specs.declared.partition.Partition.{Partition}
use Rattle.record_writer.specs.Writers.{SendPass, AreOwnAt, ways_on, ways_into}
use Rattle.job_start.specs.Starts.{IsStartFor}
use Rattle.snapshot_channel.specs.Passes as channels
use Rattle.snapshot_channel.specs.Snapshots as snapshots
use Rattle.job_cells.specs.declared.edge.Edge.{Edge}
use Rattle.job_cells.specs.Edges.{InputPass, AreGatesAt, place_into}
use Rattle.task_output.specs.declared.world.World.{World}
use Rattle.task_output.specs.Acking.{base_of}
use Rattle.job_deploy.specs.declared.senders.Senders.{Senders}
use Rattle.job_deploy.specs.declared.shared.Shared.{Shared}
use Rattle.job_deploy.specs.declared.takers.Takers.{Takers}

-- ---- passes of the stop cell

-- A pass that has told nothing.
abbrev pub IsStop : StopCell → StopPass → Type 0
IsStop cell pass = IsPassOf cell pass × (mine pass ≡ [])

abbrev pub AreStops : Shared → Type 0
AreStops shared = All (IsStop shared.stop.now) shared.stops.items

-- Where tasks go on, the interval and the channel of snapshots are the same.
pub record HasStayed (before after : Shared) : Type 0 where
  pub start_is : after.start.now ≡ before.start.now
  pub every_is : after.every ≡ before.every
  pub channel : after.snapshots.now ≡ before.snapshots.now

-- So many passes of the stop cell were taken.
pub record AreFewer (n : ℕ) (before after : Shared) : Type 0 where
  pub stayed : HasStayed before after
  pub cell : after.stop.now ≡ before.stop.now
  pub are : AreStops after
  pub fewer : length before.stops.items ≡ length after.stops.items + n

-- ---- passes that tasks alone have

-- None of them were taken.
pub record HasTheirs (before after : Shared) : Type 0 where
  pub snapshot_passes : after.snapshot_passes.items ≡ before.snapshot_passes.items
  pub last_image : after.last_image.now ≡ before.last_image.now
  pub last_passes : after.last_passes.items ≡ before.last_passes.items

-- There are those of these tasks.
pub record HasTasks (job : Job) (whose : List TaskId) (shared : Shared) : Type 0 where
  pub start : IsStartFor job shared.start.now
  pub interval : IfSome shared.every (λ n. 1 ≤ n)
  pub opening : channels.opening_of shared.snapshots.now ≡ channels.opening job shared.start.now shared.every
  pub fresh : All (channels.IsFresh shared.snapshots.now) shared.snapshot_passes.items
  pub tasks_are : map channels.task_of shared.snapshot_passes.items ≡ whose
  pub last_passes : All (IsPassOf shared.last_image.now) shared.last_passes.items
  pub last_enough : length whose ≤ length shared.last_passes.items

-- The tasks of the stages before stage i, and the first n of stage i.
abbrev pub first_tasks : Job → ℕ → ℕ → List TaskId
first_tasks job i n = snapshots.tasks_below job i ++ concat_below n (λ a. snapshots.task i a ∷ [])

abbrev pub HasFirst : Job → ℕ → ℕ → Shared → Type 0
HasFirst job i n shared = HasTasks job (first_tasks job i n) shared

-- The tasks of the stages before stage i.
abbrev pub HasStages : Job → ℕ → Shared → Type 0
HasStages job i shared = HasTasks job (snapshots.tasks_below job i) shared

-- The last pass of each kind was taken for a task, which has acknowledged nothing.
pub record WereTaken {P : Type 0} (before after : Shared) (world : World P) : Type 0 where
  pub channel : world.acks.snapshots.now ≡ before.snapshots.now
  pub snapshot_pass : before.snapshot_passes.items ≡ after.snapshot_passes.items ++ world.acks.pass ∷ []
  pub last_image : (world.acks.last_image.now ≡ before.last_image.now) × (after.last_image.now ≡ before.last_image.now)
  pub last_pass : before.last_passes.items ≡ after.last_passes.items ++ world.acks.last_pass ∷ []
  pub base : world.acks.base ≡ base_of before.start.now
  pub none_sent : world.acks.sent ≡ 0
  pub stop : IsStop world.stop.now world.stop_pass

-- ---- the two ends of an edge

-- These are passes of the first pools, in their order.
abbrev pub ArePoolPasses : List PoolCell → List PoolPass → Type 0
ArePoolPasses cells passes = (a : ℕ) (cell : PoolCell) (pass : PoolPass) → slice_get cells a ≡ Some cell → slice_get passes a ≡ Some pass → IsPassOf cell pass

-- The passes of the first tasks before edge e.
pub record AreSenders (job : Job) (e : ℕ) (edge : Edge) (senders : Senders) : Type 0 where
  pub many : length senders.own.items ≤ tasks job e
  pub pools_many : length senders.pools.items ≡ length senders.own.items
  pub own : (a : ℕ) (own : Items SendPass) → slice_get senders.own.items a ≡ Some own →
      AreOwnAt edge.subpartitions.items a (tasks job e) (ways_on job e) own.items × AreNew own.items
  pub pools : ArePoolPasses edge.partitions.items senders.pools.items

-- And of the first tasks behind it.
pub record AreTakers (job : Job) (e : ℕ) (edge : Edge) (takers : Takers) : Type 0 where
  pub many : length takers.own.items ≤ tasks job (suc e)
  pub pools_many : length takers.pools.items ≡ length takers.own.items
  pub own : (b : ℕ) (own : Items InputPass) → slice_get takers.own.items b ≡ Some own →
      AreGatesAt edge.inputs.items (b * ways_into job e) (ways_into job e) own.items
  pub pools : ArePoolPasses edge.gates.items takers.pools.items

-- It is over the cells of task a before the edge, with segments of this size.
pub record IsOverCells (job : Job) (e a size : ℕ) (edge : Edge) (partition : Partition) : Type 0 where
  pub cells : partition.subpartitions.now ≡ edge.subpartitions.items
  pub first : partition.first ≡ a
  pub stride : partition.stride ≡ tasks job e
  pub size_is : partition.size ≡ size

-- These are the cells of the gate of task b behind the edge.
pub record AreGateCells (job : Job) (e b : ℕ) (edge : Edge) (cells : List InputCell) : Type 0 where
  pub many : length cells ≡ ways_into job e
  pub each : (i : ℕ) (cell : InputCell) → slice_get cells i ≡ Some cell → slice_get edge.inputs.items (place_into job e b i) ≡ Some cell
