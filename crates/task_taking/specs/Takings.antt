-- What a task took from its gate: records, and the barriers of checkpoints between them. As in Flink a task with several channels aligns
-- them: one whose barrier has come is read no further until the barriers of all others have come, and then the task snapshots what it took
-- before. That what a task took is told by what it took from each barrier to the next is this project's own choice.
use Rattle.std.specs.Prelude.{◌≡◌, ℕ, suc, ◌<◌, ◌≤◌, Bool, true, false, List, [], ◌∷◌, ◌++◌}
use Rattle.flow_defs.specs.declared.image.TakeRun.{TakeRun}
use Rattle.flow_defs.specs.declared.job.Exchange.{Exchange}
use Rattle.flow_defs.specs.declared.job.Job.{Job}
use Rattle.flow_defs.specs.Jobs.{IsJob, last_edge, tasks, exchange}
use Rattle.barriers.specs.Alignments.{Alignment, unaligned, is_open}
use Rattle.checkpoint_laws.specs.Chapters.{RunsTake}
use Rattle.record_writer.specs.Writers.{ways_into, sender_at}
use Rattle.channel_cut.specs.Cuts.{Cut}
use Rattle.channel_cut.specs.Takings.{TakenOn}
use Rattle.gate_account.specs.Accounts.{Account}
use Rattle.gate_account.specs.Aligning.{IsInStepWhere}
use Rattle.gate_account.specs.Aligning as aligning
use Rattle.gate_account.specs.Taking.{IsTaking, IsAtSnapshot}

-- ---- a task that takes

-- How records come to it, its index, and the number of its channels; the runs of what it took since the last barrier; and where its
-- alignment stands.
pub record Taking : Type 0 where
  pub exchange : Exchange
  pub index : ℕ
  pub channels : ℕ
  pub runs : List TakeRun
  pub alignment : Alignment

-- Task b behind edge e, before it takes anything.
abbrev pub untaken : Job → ℕ → ℕ → Taking
untaken job e b = record { exchange = exchange job e; index = b; channels = ways_into job e; runs = []; alignment = unaligned (ways_into job e) }

-- It is the same task.
pub record IsSame (t t' : Taking) : Type 0 where
  pub exchange : t'.exchange ≡ t.exchange
  pub index : t'.index ≡ t.index
  pub channels : t'.channels ≡ t.channels

-- ---- the gate and the alignment

-- The task takes on: its alignment counts the barriers that the gate gave, and those channels wait that gave the one of an open checkpoint.
pub record IsInStep (gate : Account) (t : Taking) : Type 0 where
  pub channels : gate.channels ≡ t.channels
  pub step : aligning.IsInStep gate t.alignment

-- The task is at a checkpoint: all channels wait behind its barrier, and none is open.
pub record AllBlocked (gate : Account) (t : Taking) : Type 0 where
  pub channels : gate.channels ≡ t.channels
  pub step : IsInStepWhere gate t.alignment (λ c. true)
  pub aligned : is_open t.alignment ≡ false

-- ---- what a task took

-- The task at the start of channel c.
abbrev pub start_of : Job → ℕ → ℕ → ℕ → ℕ
start_of job e b c = sender_at (exchange job e) b c

-- It takes for task b behind edge e of the job, from this gate.
pub record TakesFor (job : Job) (e b : ℕ) (gate : Account) (t : Taking) : Type 0 where
  pub is_job : IsJob job
  pub edge : e ≤ last_edge job
  pub within : b < tasks job (suc e)
  pub exchange_is : t.exchange ≡ exchange job e
  pub index_is : t.index ≡ b
  pub channels : gate.channels ≡ ways_into job e

-- A gate that shows these cuts gave of each channel what the task took of it: these groups of records, each ended by a barrier, and then
-- these records. Some channels may wait behind the next barrier.
abbrev pub Gave : Job → ℕ → ℕ → Account → (ℕ → Cut → Type 0) → List (List (ℕ × List ℕ)) → List (ℕ × List ℕ) → Type 0
Gave job e b gate shows groups rest = (c : ℕ) → c < ways_into job e → (waits : Bool) × TakenOn (shows c) (gate.lines c) (start_of job e b c) groups rest waits

-- The task has taken these groups of records, with a barrier of each channel behind each group, and then these records. Some channels
-- may have given the next barrier, and wait behind it.
pub record HasTaken (job : Job) (e b : ℕ) (gate : Account) (shows : ℕ → Cut → Type 0) (t : Taking) (groups : List (List (ℕ × List ℕ))) (took : List (ℕ × List ℕ)) : Type 0 where
  pub takes_for : TakesFor job e b gate t
  pub taking : IsTaking gate shows (start_of job e b) t.alignment groups took
  pub takes : RunsTake job e b t.runs took

-- Behind these records all channels have given the barrier of the next checkpoint, and wait behind it.
pub record IsAtBarrier (job : Job) (e b : ℕ) (gate : Account) (shows : ℕ → Cut → Type 0) (t : Taking) (groups : List (List (ℕ × List ℕ))) (took : List (ℕ × List ℕ)) : Type 0 where
  pub takes_for : TakesFor job e b gate t
  pub at : IsAtSnapshot gate shows (start_of job e b) t.alignment (groups ++ took ∷ [])
  pub takes : RunsTake job e b t.runs took

-- So much it had taken when its gate gave nothing more that it takes.
pub record HadTaken (job : Job) (e b : ℕ) (gate : Account) (shows : ℕ → Cut → Type 0) (t : Taking) (groups : List (List (ℕ × List ℕ))) (took : List (ℕ × List ℕ)) : Type 0 where
  pub given : Gave job e b gate shows groups took
  pub takes : RunsTake job e b t.runs took
