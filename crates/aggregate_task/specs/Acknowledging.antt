-- An aggregate task under way. As in Flink it counts the records that it takes, and acknowledges a checkpoint behind the barriers of all
-- its channels. That it waits for the image before, by which it tells the last checkpoint of a job, is this project's own choice.
use Rattle.std.specs.Prelude.{◌≡◌, ◌≢◌, ℕ, suc, ◌+◌, ◌⊎◌, Bool, true, false, List, [], ◌++◌, length, Result, Ok, Err}
use Rattle.turn_cell.specs.Passes.{seen}
use Rattle.flow_defs.specs.declared.cause.Cause.{Cause}
use Rattle.flow_defs.specs.declared.cause.Cause.TheVariants as causes
use Rattle.flow_defs.specs.declared.image.Snapshot.{Snapshot}
use Rattle.flow_defs.specs.declared.image.TakeRun.{TakeRun}
use Rattle.flow_defs.specs.Jobs.{IsJob, last_edge}
use Rattle.flow_defs.specs.Tables.{Values}
use Rattle.plain_machine.specs.Images.{HasShortKeys}
use Rattle.checkpoint_laws.specs.Chapters.{task_at}
use Rattle.job_start.specs.declared.start.Start.{Start}
use Rattle.job_start.specs.Starts.{IsStartFor, from_of}
use Rattle.channel_cut.specs.Cuts.{Cut}
use Rattle.gate_account.specs.Accounts.{Account}
use Rattle.snapshot_channel.specs.Passes.{opening, opening_of, sent_by, task_of}
use Rattle.task_output.specs.Acking.{HasPasses, IsSameTask, base_of}
use Rattle.task_output.specs.Looking.{IsSameLook}
use Rattle.task_output.specs.Waiting.{LastIs, HasWaited, KnowsLast}
use Rattle.task_taking.specs.Takings.{Taking, HasTaken, IsAtBarrier, IsInStep, AllBlocked}
use Rattle.aggregate_task.specs.declared.checkpoint.AggregateOutput.{AggregateOutput}
use Rattle.aggregate_task.specs.declared.checkpoint.Ending.{Ending}
use Rattle.aggregate_task.specs.Snapshots.{AreSnapshots, SentSnapshot, all_taken, table_with}

-- ---- by what it acknowledges

-- The start for which its channel of snapshots is opened, and from what its task goes on there.
abbrev pub start_at : AggregateOutput → Start
start_at out = (opening_of out.acks.snapshots.now).start

abbrev pub from_at : AggregateOutput → Snapshot
from_at out = from_of out.job.now (start_at out) (suc (last_edge out.job.now)) out.index

-- It acknowledges for a task of the job's aggregate, by passes of its cell and of its channel, which is opened for this job and this
-- interval and a start of this job.
pub record IsAcking (out : AggregateOutput) : Type 0 where
  pub is_job : IsJob out.job.now
  pub start : IsStartFor out.job.now (start_at out)
  pub opened : opening_of out.acks.snapshots.now ≡ opening out.job.now (start_at out) out.every
  pub passes : HasPasses out.acks
  pub task : task_of out.acks.pass ≡ task_at (suc (last_edge out.job.now)) out.index

-- It acknowledges for the same task, by the same cells and the same channel, and has told nothing.
pub record IsSame (out out' : AggregateOutput) : Type 0 where
  pub job : out'.job ≡ out.job
  pub index : out'.index ≡ out.index
  pub every_is : out'.every ≡ out.every
  pub acks : IsSameTask out.acks out'.acks
  pub stop : IsSameLook out.stop out'.stop

-- ---- where it stands

-- It has sent a snapshot for each of the groups, and each only where it had seen the image before. From its table of the start on it has
-- counted these groups and what it took behind them.
pub record HasCounted (counts : Values) (out : AggregateOutput) (groups : List (List (ℕ × List ℕ))) (took : List (ℕ × List ℕ)) : Type 0 where
  pub counted : counts ≡ table_with out.job.now (from_at out).table (all_taken groups ++ took)
  pub keys : HasShortKeys counts
  pub snapshots : AreSnapshots out.job.now out.index (from_at out).number (from_at out).table groups (sent_by out.acks.pass)
  pub waited : HasWaited (base_of (start_at out)) (length groups) (seen out.acks.last_pass)

-- It took groups of records, acknowledged a checkpoint behind each, and then took some records. It takes on, and whether it has
-- acknowledged the last checkpoint is as said. Behind that it took nothing.
pub record IsCountUnderWay (gate : Account) (shows : ℕ → Cut → Type 0) (taking : Taking) (counts : Values) (out : AggregateOutput) (last : Bool) : Type 0 where
  pub groups : List (List (ℕ × List ℕ))
  pub took : List (ℕ × List ℕ)
  pub taken : HasTaken out.job.now (last_edge out.job.now) out.index gate shows taking groups took
  pub in_step : IsInStep gate taking
  pub counted : HasCounted counts out groups took
  pub last_is : LastIs (base_of (start_at out)) out.every (seen out.acks.last_pass) (length groups) last
  pub none_behind : last ≡ true → took ≡ []

-- It came to the barriers of a checkpoint, and has not acknowledged the last one.
pub record IsAtCheckpoint (gate : Account) (shows : ℕ → Cut → Type 0) (taking : Taking) (counts : Values) (out : AggregateOutput) : Type 0 where
  pub groups : List (List (ℕ × List ℕ))
  pub took : List (ℕ × List ℕ)
  pub at_barrier : IsAtBarrier out.job.now (last_edge out.job.now) out.index gate shows taking groups took
  pub blocked : AllBlocked gate taking
  pub counted : HasCounted counts out groups took
  pub not_last : LastIs (base_of (start_at out)) out.every (seen out.acks.last_pass) (length groups) false

-- It breaks off for want of memory, or where it has seen that another worker met a fault.
abbrev pub BreaksFor : AggregateOutput → Cause → Type 0
BreaksFor out cause = (cause ≡ causes.Memory) ⊎ ((cause ≡ causes.Stopped) × (seen out.stop.pass ≢ []))

-- The number of the checkpoint that it acknowledges next.
abbrev pub next_number : AggregateOutput → ℕ
next_number out = suc ((start_at out).number + length (sent_by out.acks.pass))

-- It has sent the snapshot for the next checkpoint behind those before, and knows whether that is the last; or it broke off before it sent
-- it, and has the runs back.
abbrev pub Acknowledged : AggregateOutput → Values → List TakeRun → AggregateOutput → Result Bool Ending → Type 0
Acknowledged before table runs after (Ok last) =
    SentSnapshot before.job.now before.index (next_number before) table runs (sent_by before.acks.pass) (sent_by after.acks.pass)
    × KnowsLast (base_of (start_at before)) before.every (seen after.acks.last_pass) (length (sent_by before.acks.pass)) last
Acknowledged before table runs after (Err end) = (sent_by after.acks.pass ≡ sent_by before.acks.pass) × (end.takes.items ≡ runs) × BreaksFor after end.cause
