-- What a task takes next, and why it takes nothing more. That an end of the gate is told as the task's cause is this project's own choice.
use Rattle.std.specs.Prelude.{◌≡◌, ◌≢◌, ℕ, suc, ◌<◌, ◌⊎◌, ⊤, true, List, [], ◌∷◌, ◌++◌, length, Option, Some, None, Result, Ok, Err}
use Rattle.flow_defs.specs.declared.cause.Cause.{Cause}
use Rattle.flow_defs.specs.declared.cause.Cause.TheVariants as causes
use Rattle.flow_defs.specs.declared.cause.PeerFault.TheVariants as peers
use Rattle.flow_defs.specs.declared.task.BarrierKind.{BarrierKind}
use Rattle.flow_defs.specs.declared.task.BarrierKind.TheVariants.{Front}
use Rattle.flow_defs.specs.declared.job.Job.{Job}
use Rattle.flow_defs.specs.Records.{IsShort}
use Rattle.record_spans.specs.Spans.{BeginsTooLong}
use Rattle.channel_cut.specs.Cuts.{Cut}
use Rattle.gate_account.specs.Accounts.{Account, AllOver}
use Rattle.input_gate.specs.declared.gate.GateEnd.{GateEnd}
use Rattle.input_gate.specs.declared.gate.GateEnd.TheVariants as ends
use Rattle.task_taking.specs.declared.taking.Taken.{Taken}
use Rattle.task_taking.specs.declared.taking.Taken.TheVariants as taken
use Rattle.task_taking.specs.Takings.{Taking, IsInStep, AllBlocked, HasTaken, HadTaken, IsAtBarrier}

-- ---- why it takes nothing more

-- What is left of a channel begins with a length that is no record's, or the channel ended with something left.
abbrev pub IsCutShort : Account → Type 0
IsCutShort gate = (c : ℕ) × (c < gate.channels) × (((len : ℕ) × BeginsTooLong (gate.left c) len) ⊎ ((gate.ended c ≡ true) × (0 < length (gate.left c))))

-- The last barrier of a channel is a front one, which no task of this program sends.
abbrev pub GaveFront : Account → Type 0
GaveFront gate = (c : ℕ) × (k : ℕ) × (earlier : List (ℕ × BarrierKind)) × (c < gate.channels) × (gate.barriers c ≡ earlier ++ (k, Front) ∷ [])

-- What a task ends with where its gate gives nothing more.
abbrev pub cause_of : GateEnd → Cause
cause_of ends.Stopped = causes.Stopped
cause_of ends.Memory = causes.Memory
cause_of (ends.TooLong channel len) = causes.Peer peers.Left
cause_of (ends.Left channel len) = causes.Peer peers.Left

-- A task that takes ends so only where its gate gave what no task sends.
abbrev pub IsTakerCause : Account → Cause → Type 0
IsTakerCause gate causes.Done = ⊤
IsTakerCause gate causes.Stopped = ⊤
IsTakerCause gate (causes.Peer peers.Left) = IsCutShort gate
IsTakerCause gate (causes.Peer peers.Barrier) = GaveFront gate
IsTakerCause gate causes.Memory = ⊤
IsTakerCause gate other = ⊥

-- ---- what it takes next

-- Behind a record and an end it takes on. Behind the barriers of a checkpoint, which is the one after those closed, its channels are
-- blocked.
abbrev pub TakingGoesOn : Account → Taking → Taking → Result Taken Cause → Type 0
TakingGoesOn gate t t' (Ok (taken.Line line)) = IsInStep gate t' × (t'.alignment.closed ≡ t.alignment.closed)
TakingGoesOn gate t t' (Ok (taken.Checkpoint k)) = AllBlocked gate t' × (t'.alignment.closed ≡ k) × (k ≡ suc t.alignment.closed)
TakingGoesOn gate t t' (Ok taken.AllEnded) = IsInStep gate t' × (t'.alignment.closed ≡ t.alignment.closed)
TakingGoesOn gate t t' (Err cause) = ⊤

-- To what it had taken it took this record, or came to these barriers, or took nothing: all channels had ended, or it has a cause to end.
abbrev pub TookNext : Job → ℕ → ℕ → Account → (ℕ → Cut → Type 0) → Taking → List (List (ℕ × List ℕ)) → List (ℕ × List ℕ) → Result Taken Cause → Type 0
TookNext job e b gate shows t groups took (Ok (taken.Line line)) = IsShort line.items × ((a : ℕ) × HasTaken job e b gate shows t groups (took ++ (a, line.items) ∷ []))
TookNext job e b gate shows t groups took (Ok (taken.Checkpoint k)) = IsAtBarrier job e b gate shows t groups took × (k ≡ suc (length groups))
TookNext job e b gate shows t groups took (Ok taken.AllEnded) = HasTaken job e b gate shows t groups took × AllOver gate
TookNext job e b gate shows t groups took (Err cause) = HadTaken job e b gate shows t groups took × IsTakerCause gate cause × (cause ≢ causes.Done)

-- The same of one item of the gate, of which there may be nothing to tell.
abbrev pub GoesOnFrom : Account → Taking → Taking → Result (Option Taken) Cause → Type 0
GoesOnFrom gate t t' (Ok (Some item)) = TakingGoesOn gate t t' (Ok item)
GoesOnFrom gate t t' (Ok None) = IsInStep gate t' × (t'.alignment.closed ≡ t.alignment.closed)
GoesOnFrom gate t t' (Err cause) = TakingGoesOn gate t t' (Err cause)

abbrev pub TookItem : Job → ℕ → ℕ → Account → (ℕ → Cut → Type 0) → Taking → List (List (ℕ × List ℕ)) → List (ℕ × List ℕ) → Result (Option Taken) Cause → Type 0
TookItem job e b gate shows t groups took (Ok (Some item)) = TookNext job e b gate shows t groups took (Ok item)
TookItem job e b gate shows t groups took (Ok None) = HasTaken job e b gate shows t groups took
TookItem job e b gate shows t groups took (Err cause) = TookNext job e b gate shows t groups took (Err cause)
