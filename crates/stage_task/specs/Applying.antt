-- A stateless task under way. As in Flink it puts a barrier behind what it emitted for the records that it took before its snapshot, and
-- goes on. That what it did is told by what it took from each barrier to the next is this project's own choice.
use Rattle.std.specs.Prelude.{◌≡◌, ℕ, suc, ◌<◌, ◌⊎◌, Bool, true, false, List, [], ◌∷◌, ◌++◌, length, Result, Ok, Err}
use Rattle.turn_cell.specs.Passes.{seen}
use Rattle.flow_defs.specs.declared.cause.Cause.{Cause}
use Rattle.flow_defs.specs.declared.cause.Cause.TheVariants as causes
use Rattle.flow_defs.specs.declared.image.Snapshot.{Snapshot}
use Rattle.flow_defs.specs.declared.job.Job.{Job}
use Rattle.flow_defs.specs.Jobs.{last_edge}
use Rattle.checkpoint_laws.specs.Chapters.{applied, task_at}
use Rattle.job_start.specs.declared.start.Start.{Start}
use Rattle.job_start.specs.Starts.{from_of}
use Rattle.outside.specs.declared.last_image.Stored.{Stored}
use Rattle.record_writer.specs.Writers.{IsSame, HasSeenFault}
use Rattle.channel_cut.specs.Cuts.{Cut}
use Rattle.gate_account.specs.Accounts.{Account}
use Rattle.snapshot_channel.specs.Passes.{opening_of, sent_by, task_of}
use Rattle.task_taking.specs.Takings.{Taking, HasTaken, IsAtBarrier}
use Rattle.task_output.specs.Acking.{HasPasses, IsSameTask, base_of}
use Rattle.task_output.specs.Outputs.{Output, HasSent, HasBegun}
use Rattle.task_output.specs.Waiting.{LastIs, HasWaited}
use Rattle.stage_task.specs.declared.checkpoints.StageOutput.{StageOutput}
use Rattle.stage_task.specs.declared.checkpoints.TakerEnd.{TakerEnd}
use Rattle.stage_task.specs.Snapshots.{AreSnapshots, all_applied}
use Rattle.stage_task.specs.Stages.{StageAccount}

-- ---- what it has at hand

-- The start for which its channel of snapshots is opened, the image of that start as others are told of it, and from what the task goes on.
abbrev pub start_at : StageOutput → Start
start_at out = (opening_of out.acks.snapshots.now).start

abbrev pub base_at : StageOutput → Stored
base_at out = base_of (start_at out)

abbrev pub from_at : StageOutput → Snapshot
from_at out = from_of out.job.now (start_at out) (suc out.edge) out.index

-- It acknowledges as its task, on a channel of snapshots that is opened for its job. It has sent a snapshot only where it had seen the image
-- of the checkpoint before. Its edge is one before the last.
pub record HasOwnPasses (out : StageOutput) : Type 0 where
  pub edge : out.edge < last_edge out.job.now
  pub passes : HasPasses out.acks
  pub task : task_of out.acks.pass ≡ task_at (suc out.edge) out.index
  pub job_is : (opening_of out.acks.snapshots.now).job ≡ out.job.now
  pub waited : HasWaited (base_at out) (length (sent_by out.acks.pass)) (seen out.acks.last_pass)

-- It is the same task, and writes by the same writer.
pub record IsSameStage (out out' : StageOutput) : Type 0 where
  pub writer : IsSame out.output.writer out'.output.writer
  pub acks : IsSameTask out.acks out'.acks
  pub job : out'.job ≡ out.job
  pub edge : out'.edge ≡ out.edge
  pub index : out'.index ≡ out.index
  pub every_is : out'.every ≡ out.every

-- ---- what it took and emitted

-- It has taken these groups of records and then these, and emitted what its stage gives for them, with a barrier and a snapshot behind each
-- group.
pub record HasApplied (gate : Account) (shows : ℕ → Cut → Type 0) (taking : Taking) (out : StageOutput) (groups : List (List (ℕ × List ℕ))) (took : List (ℕ × List ℕ)) : Type 0 where
  pub taken : HasTaken out.job.now out.edge out.index gate shows taking groups took
  pub sent : HasSent (from_at out).emitted out.job.now (suc out.edge) out.index out.output.writer.size out.output (all_applied out.job.now out.edge groups) (applied out.job.now out.edge took)
  pub snapshots : AreSnapshots out.job.now out.edge out.index (from_at out).number (from_at out).emitted groups (sent_by out.acks.pass)

-- It takes on: the last checkpoint is still to come.
pub record IsStageUnderWay (gate : Account) (shows : ℕ → Cut → Type 0) (taking : Taking) (out : StageOutput) : Type 0 where
  pub groups : List (List (ℕ × List ℕ))
  pub took : List (ℕ × List ℕ)
  pub applied_them : HasApplied gate shows taking out groups took
  pub not_last : LastIs (base_at out) out.every (seen out.acks.last_pass) (length groups) false

-- It has acknowledged the last checkpoint, and has taken nothing behind it.
pub record IsBehindLast (gate : Account) (shows : ℕ → Cut → Type 0) (taking : Taking) (out : StageOutput) : Type 0 where
  pub groups : List (List (ℕ × List ℕ))
  pub applied_them : HasApplied gate shows taking out groups []
  pub last : LastIs (base_at out) out.every (seen out.acks.last_pass) (length groups) true

-- The barriers of a checkpoint have come, and were put behind all that it emitted. The snapshot is still to be sent.
pub record IsMarked (gate : Account) (shows : ℕ → Cut → Type 0) (taking : Taking) (out : StageOutput) : Type 0 where
  pub groups : List (List (ℕ × List ℕ))
  pub took : List (ℕ × List ℕ)
  pub at : IsAtBarrier out.job.now out.edge out.index gate shows taking groups took
  pub sent : HasSent (from_at out).emitted out.job.now (suc out.edge) out.index out.output.writer.size out.output (all_applied out.job.now out.edge groups ++ applied out.job.now out.edge took ∷ []) []
  pub snapshots : AreSnapshots out.job.now out.edge out.index (from_at out).number (from_at out).emitted groups (sent_by out.acks.pass)
  pub not_last : LastIs (base_at out) out.every (seen out.acks.last_pass) (length groups) false

-- It has acknowledged a checkpoint, the last one or another.
abbrev pub HasAcknowledged : Account → (ℕ → Cut → Type 0) → Taking → StageOutput → Bool → Type 0
HasAcknowledged gate shows taking out true = IsBehindLast gate shows taking out
HasAcknowledged gate shows taking out false = IsStageUnderWay gate shows taking out

-- ---- one record

-- Of what a stage gave for a record the task has emitted the first records, and had begun the one behind them. It was stopped there, or
-- found no memory.
pub record EndedAmong (from : ℕ) (job : Job) (e a size : ℕ) (out : Output) (groups : List (List (List ℕ))) (records given : List (List ℕ)) (cause : Cause) : Type 0 where
  pub done : List (List ℕ)
  pub begun : List (List ℕ)
  pub rest : List (List ℕ)
  pub parts : given ≡ done ++ (begun ++ rest)
  pub begun_them : HasBegun from job e a size out groups (records ++ done) begun ⊥ ⊥
  pub cause_is : (cause ≡ causes.Memory) ⊎ ((cause ≡ causes.Stopped) × HasSeenFault out.writer)

-- It has emitted all of it, or ended among it.
abbrev pub EmittedAll : ℕ → Job → ℕ → ℕ → ℕ → Output → List (List (List ℕ)) → List (List ℕ) → List (List ℕ) → Result Unit Cause → Type 0
EmittedAll from job e a size out groups records given (Ok done) = HasSent from job e a size out groups (records ++ given)
EmittedAll from job e a size out groups records given (Err cause) = EndedAmong from job e a size out groups records given cause

-- ---- where it ends

-- It has its account where it takes no more.
abbrev pub IsEndOf : Account → (ℕ → Cut → Type 0) → StageOutput → TakerEnd → Type 0
IsEndOf gate shows out end =
    StageAccount out.job.now out.edge out.index out.output.writer.size (start_at out) out.every gate shows out.output.writer.passes (sent_by out.acks.pass) (seen out.acks.last_pass) end.takes.items end.cause
