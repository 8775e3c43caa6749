-- What the task of a stateless stage did. As in Flink it emits what its function gives for each record that it takes, and acknowledges each
-- checkpoint. That it tells so whatever its cause is this project's own choice.
use Rattle.std.specs.Prelude.{◌≡◌, ℕ, suc, ◌-◌, ◌<◌, ◌≤◌, List, [], length, Option}
use Rattle.turn_cell.specs.History.{StartsWith}
use Rattle.flow_defs.specs.declared.cause.Cause.{Cause}
use Rattle.flow_defs.specs.declared.cause.Cause.TheVariants as causes
use Rattle.flow_defs.specs.declared.image.Snapshot.{Snapshot}
use Rattle.flow_defs.specs.declared.image.TakeRun.{TakeRun}
use Rattle.flow_defs.specs.declared.job.Job.{Job}
use Rattle.flow_defs.specs.declared.task.TaskId.{TaskId}
use Rattle.flow_defs.specs.Jobs.{IsJob, last_edge, tasks}
use Rattle.plain_machine.specs.Emitting.{receiver_on}
use Rattle.checkpoint_laws.specs.Chapters.{RunsTake, applied}
use Rattle.job_start.specs.declared.start.Start.{Start}
use Rattle.job_start.specs.Starts.{from_of}
use Rattle.outside.specs.declared.last_image.Stored.{Stored}
use Rattle.conn_parts.specs.Shares.{mine_at}
use Rattle.record_writer.specs.Writers.{SendPass, ways_on, ways_into}
use Rattle.channel_cut.specs.Cuts.{Cut}
use Rattle.gate_account.specs.Accounts.{Account, IsNew}
use Rattle.task_taking.specs.Takings.{Gave}
use Rattle.task_taking.specs.Endings.{EachTold, IsTakerEnd}
use Rattle.task_output.specs.Acking.{base_of}
use Rattle.task_output.specs.Outputs.{BegunOn, FinishedOn, end_of}
use Rattle.task_output.specs.Waiting.{MayEnd}
use Rattle.stage_task.specs.Snapshots.{AreSnapshots, all_applied}

-- ---- what it did

-- What task b behind edge e did from this start on by its gate, which shows these cuts, and its passes: it took these groups of records and sent a snapshot for each,
-- and then took the rest, of which the runs tell. It put what its stage gives for each group before a barrier, and behind the last one what
-- it gives for the rest, from the first record on. The numbers of its snapshots, and how many records it has emitted, go on from those of the
-- start. It was done only where it had acknowledged the last checkpoint, and then ended its channels. Whatever its cause, it put at most one
-- barrier more than it sent snapshots, and that one only where each channel of its gate had told it; and an end only behind the barrier of
-- the last checkpoint.
pub record StageAccount (job : Job) (e b size : ℕ) (start : Start) (every : Option ℕ) (gate : Account) (shows : ℕ → Cut → Type 0) (passes : List SendPass) (sent : List Snapshot) (history : List (ℕ × Stored)) (takes : List TakeRun) (cause : Cause) : Type 0 where
  pub groups : List (List (ℕ × List ℕ))
  pub rest : List (ℕ × List ℕ)
  pub more : List (List ℕ)
  pub given : Gave job e b gate shows groups rest
  pub snapshots : AreSnapshots job e b (from_of job start (suc e) b).number (from_of job start (suc e) b).emitted groups sent
  pub takes_are : RunsTake job e b takes rest
  pub front : StartsWith (applied job e rest) more
  pub put : (c : ℕ) → c < ways_on job (suc e) → BegunOn (receiver_on job (suc e) b) (from_of job start (suc e) b).emitted (all_applied job e groups) (end_of job (suc e) b c) size more (EachTold gate (suc (length groups))) (MayEnd (base_of start) every history groups rest) (mine_at c passes)
  pub done : cause ≡ causes.Done → (rest ≡ []) × ((c : ℕ) → c < ways_on job (suc e) → FinishedOn (receiver_on job (suc e) b) (from_of job start (suc e) b).emitted (all_applied job e groups) (end_of job (suc e) b c) size [] (mine_at c passes))
  pub cause_is : IsTakerEnd (base_of start) every history gate groups rest cause

-- ---- what it is

-- It is a task of a stateless stage of the job, and takes from a new gate that has its channels.
pub record IsStageTask (job : Job) (task : TaskId) (gate : Account) : Type 0 where
  pub is_job : IsJob job
  pub stage : (1 ≤ task.stage) × (task.stage ≤ last_edge job)
  pub index : task.index < tasks job task.stage
  pub gate_new : IsNew (λ c. []) gate
  pub channels_are : gate.channels ≡ ways_into job (task.stage - 1)
