-- What an aggregate task did. As in Flink it counts the records that it takes, and its snapshots hold its table. That it tells so whatever
-- its cause is this project's own choice.
use Rattle.std.specs.Prelude.{ℕ, suc, List, length, Option}
use Rattle.turn_cell.specs.Passes.{seen}
use Rattle.flow_defs.specs.declared.cause.Cause.{Cause}
use Rattle.flow_defs.specs.declared.image.Snapshot.{Snapshot}
use Rattle.flow_defs.specs.declared.image.TakeRun.{TakeRun}
use Rattle.flow_defs.specs.declared.job.Job.{Job}
use Rattle.flow_defs.specs.Jobs.{last_edge}
use Rattle.checkpoint_laws.specs.Chapters.{RunsTake}
use Rattle.job_start.specs.declared.start.Start.{Start}
use Rattle.job_start.specs.Starts.{from_of}
use Rattle.outside.specs.declared.last_image.Stored.{Stored}
use Rattle.channel_cut.specs.Cuts.{Cut}
use Rattle.gate_account.specs.Accounts.{Account}
use Rattle.snapshot_channel.specs.Passes.{sent_by}
use Rattle.task_output.specs.Acking.{base_of}
use Rattle.task_output.specs.Waiting.{HasWaited}
use Rattle.task_taking.specs.Takings.{Gave}
use Rattle.task_taking.specs.Endings.{IsTakerEnd}
use Rattle.aggregate_task.specs.declared.checkpoint.AggregateOutput.{AggregateOutput}
use Rattle.aggregate_task.specs.declared.checkpoint.Ending.{Ending}
use Rattle.aggregate_task.specs.Acknowledging.{start_at}
use Rattle.aggregate_task.specs.Snapshots.{AreSnapshots}

-- What task b of the aggregate did from the start on, by its gate, which shows these cuts: it took groups of records, each before a barrier of all its channels, and sent a
-- snapshot for each of them, where it had seen the image of the checkpoint before. Behind these it took the rest.
pub record AggregateAccount (job : Job) (b : ℕ) (start : Start) (every : Option ℕ) (gate : Account) (shows : ℕ → Cut → Type 0) (sent : List Snapshot) (history : List (ℕ × Stored)) (takes : List TakeRun) (cause : Cause) : Type 0 where
  pub groups : List (List (ℕ × List ℕ))
  pub rest : List (ℕ × List ℕ)
  pub given : Gave job (last_edge job) b gate shows groups rest
  pub snapshots : AreSnapshots job b (from_of job start (suc (last_edge job)) b).number (from_of job start (suc (last_edge job)) b).table groups sent
  pub takes_are : RunsTake job (last_edge job) b takes rest
  pub waited : HasWaited (base_of start) (length sent) history
  pub cause_is : IsTakerEnd (base_of start) every history gate groups rest cause

-- So it did by what it acknowledges by, where it ends so.
abbrev pub HasAccount : Account → (ℕ → Cut → Type 0) → AggregateOutput → Ending → Type 0
HasAccount gate shows out end = AggregateAccount out.job.now out.index (start_at out) out.every gate shows (sent_by out.acks.pass) (seen out.acks.last_pass) end.takes.items end.cause
