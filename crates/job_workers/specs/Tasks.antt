-- What the tasks of a job may be lent, and what they leave. This is this project's own choice.
use Rattle.std.specs.Prelude.{◌≡◌, ℕ, suc, ◌<◌, [], List, Option, Some, None}
use Rattle.std.specs.Option.{option_map_or}
use Rattle.turn_cell.specs.Passes.{IsPassOf, seen}
use Rattle.flow_defs.specs.declared.image.Snapshot.{Snapshot}
use Rattle.flow_defs.specs.declared.image.TakeRun.{TakeRun}
use Rattle.flow_defs.specs.declared.job.Job.{Job}
use Rattle.flow_defs.specs.Jobs.{last_edge, tasks}
use Rattle.conn_parts.specs.Shares.{AreOwn}
use Rattle.record_writer.specs.declared.partition.Partition.{Partition}
use Rattle.record_writer.specs.declared.partition.PartitionPasses.{PartitionPasses}
use Rattle.record_writer.specs.Partitions.{ArePassesOf, IsPartitionOf}
use Rattle.record_writer.specs.Writers.{SendPass, ways_into}
use Rattle.input_gate.specs.declared.passes.GatePasses.{GatePasses}
use Rattle.input_gate.specs.Channels.{cells_in}
use Rattle.gate_account.specs.Accounts.{Account, IsNew}
use Rattle.input_gate.specs.States.{GateState, account_in, shows_at}
use Rattle.input_gate.specs.Turning.{InputCell, InputPass}
use Rattle.checkpoint_laws.specs.Chapters.{task_at}
use Rattle.job_start.specs.Starts.{IsStartFor}
use Rattle.snapshot_channel.specs.declared.opened.SnapshotChannel.{SnapshotChannel}
use Rattle.snapshot_channel.specs.declared.opened.TaskPass.{TaskPass}
use Rattle.snapshot_channel.specs.Passes as channels
use Rattle.task_output.specs.Acking.{IsLent}
use Rattle.source_task.specs.Sources.{SourceAccount}
use Rattle.stage_task.specs.Stages.{StageAccount}
use Rattle.aggregate_task.specs.Aggregates.{AggregateAccount}
use Rattle.job_workers.specs.declared.task.SourceTask.{SourceTask}
use Rattle.job_workers.specs.declared.task.StageTask.{StageTask}
use Rattle.job_workers.specs.declared.task.AggregateTask.{AggregateTask}
use Rattle.job_workers.specs.declared.task.Task.{Task}
use Rattle.job_workers.specs.declared.task.Task.TheVariants.{Source, Stage, Aggregate}
use Rattle.job_workers.specs.declared.task.TaskLeft.{TaskLeft}

-- ---- what they are lent

-- The gate of a task behind edge e has given nothing.
abbrev pub IsGateBehind : Job → ℕ → GateState → Type 0
IsGateBehind job e gate = IsNew (λ c. []) (account_in gate) × ((account_in gate).channels ≡ ways_into job e)

pub record MayRunSource {S : Type 0} (job : Job) (task : SourceTask S) : Type 0 where
  pub partition : IsPartitionOf job 0 task.index task.world.partition
  pub lent : IsLent job 0 task.index task.start.now task.every task.world

pub record MayRunStage (job : Job) (task : StageTask) : Type 0 where
  pub stage : (task.edge < last_edge job) × (task.index < tasks job (suc task.edge))
  pub gate : IsGateBehind job task.edge task.gate
  pub partition : IsPartitionOf job (suc task.edge) task.index task.world.partition
  pub lent : IsLent job (suc task.edge) task.index task.start.now task.every task.world

pub record MayRunAggregate (job : Job) (task : AggregateTask) : Type 0 where
  pub index : task.index < tasks job (suc (last_edge job))
  pub gate : IsGateBehind job (last_edge job) task.gate
  pub start : IsStartFor job task.start.now
  pub lent : IsLent job (suc (last_edge job)) task.index task.start.now task.every task.world

abbrev pub MayRunTask : {S : Type 0} → Job → Task S → Type 0
MayRunTask job (Source task) = MayRunSource job task
MayRunTask job (Stage task) = MayRunStage job task
MayRunTask job (Aggregate task) = MayRunAggregate job task

-- ---- what they leave

-- The passes of a gate, those by which a task sent, and the snapshots that it sent. Without such passes there are none.
abbrev pub gate_in : Option GatePasses → List InputPass
gate_in back = option_map_or (λ (passes : GatePasses). passes.cells.items) back []

abbrev pub passes_in : Option PartitionPasses → List SendPass
passes_in back = option_map_or (λ (passes : PartitionPasses). passes.subpartitions.items) back []

abbrev pub snapshots_in : Option TaskPass → List Snapshot
snapshots_in back = option_map_or (λ (pass : TaskPass). channels.sent_by pass) back []

-- There are passes of these cells of a gate's channels.
pub record HasGatePasses (cells : List InputCell) (back : Option GatePasses) : Type 0 where
  pub passes : GatePasses
  pub are_there : back ≡ Some passes
  pub own : AreOwn 0 cells passes.cells.items

-- There are passes of the partition before edge e.
pub record HasPartitionPasses (job : Job) (e : ℕ) (lent : Partition) (back : Option PartitionPasses) : Type 0 where
  pub passes : PartitionPasses
  pub are_there : back ≡ Some passes
  pub are_of : ArePassesOf job e lent passes

-- There is the pass of this channel of snapshots of task a of stage i.
pub record HasSnapshotPass (i a : ℕ) (snapshots : SnapshotChannel) (back : Option TaskPass) : Type 0 where
  pub pass : TaskPass
  pub is_there : back ≡ Some pass
  pub of_channel : channels.IsPassOf snapshots pass
  pub task : channels.task_of pass ≡ task_at i a

-- A source has its account, by what its pass of the last image has seen.
pub record LeftBySource {S : Type 0} (left : S → Option (List ℕ)) (faults : S → ℕ) (job : Job) (task : SourceTask S) (end : TaskLeft S) : Type 0 where
  pub input : S
  pub is_there : end.input ≡ Some input
  pub no_gate : end.gate ≡ None
  pub partition : HasPartitionPasses job 0 task.world.partition end.partition
  pub snapshots : HasSnapshotPass 0 task.index task.world.acks.snapshots.now end.snapshots
  pub last_image : IsPassOf task.world.acks.last_image.now end.last_image
  pub account : SourceAccount job task.index task.world.partition.size task.start.now task.every (passes_in end.partition) (snapshots_in end.snapshots) (seen end.last_image) (left task.input) (faults task.input) (faults input) end.cause

-- A stateless task has its account by what its gate's passes show.
pub record LeftByStage {S : Type 0} (job : Job) (task : StageTask) (end : TaskLeft S) : Type 0 where
  pub no_input : end.input ≡ None
  pub gate : HasGatePasses (cells_in task.gate.lanes) end.gate
  pub partition : HasPartitionPasses job (suc task.edge) task.world.partition end.partition
  pub snapshots : HasSnapshotPass (suc task.edge) task.index task.world.acks.snapshots.now end.snapshots
  pub last_image : IsPassOf task.world.acks.last_image.now end.last_image
  pub given : Account
  pub takes : List TakeRun
  pub account : StageAccount job task.edge task.index task.world.partition.size task.start.now task.every given (shows_at (gate_in end.gate)) (passes_in end.partition) (snapshots_in end.snapshots) (seen end.last_image) takes end.cause

-- So has a task of the aggregate.
pub record LeftByAggregate {S : Type 0} (job : Job) (task : AggregateTask) (end : TaskLeft S) : Type 0 where
  pub no_input : end.input ≡ None
  pub gate : HasGatePasses (cells_in task.gate.lanes) end.gate
  pub no_partition : end.partition ≡ None
  pub snapshots : HasSnapshotPass (suc (last_edge job)) task.index task.world.acks.snapshots.now end.snapshots
  pub last_image : IsPassOf task.world.acks.last_image.now end.last_image
  pub given : Account
  pub takes : List TakeRun
  pub account : AggregateAccount job task.index task.start.now task.every given (shows_at (gate_in end.gate)) (snapshots_in end.snapshots) (seen end.last_image) takes end.cause

abbrev pub LeftByTask : {S : Type 0} → (S → Option (List ℕ)) → (S → ℕ) → Job → Task S → TaskLeft S → Type 0
LeftByTask left faults job (Source task) end = LeftBySource left faults job task end
LeftByTask left faults job (Stage task) end = LeftByStage job task end
LeftByTask left faults job (Aggregate task) end = LeftByAggregate job task end
