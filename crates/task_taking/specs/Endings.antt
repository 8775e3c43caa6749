-- How a task that takes ends. As in Flink a task goes on until all its channels have ended. That it
-- ends only behind the last checkpoint of the job, which it has acknowledged, is this project's own choice.
use Rattle.std.specs.Prelude.{◌≡◌, ◌≢◌, ℕ, suc, ◌<◌, ◌⊎◌, ⊤, true, false, List, [], ◌++◌, length, Option}
use Rattle.flow_defs.specs.declared.cause.Cause.{Cause}
use Rattle.flow_defs.specs.declared.cause.Cause.TheVariants as causes
use Rattle.flow_defs.specs.declared.cause.PeerFault.TheVariants as peers
use Rattle.turn_cell.specs.Passes.{IsPassOf, number, seen, mine}
use Rattle.outside.specs.Stops.{told_of}
use Rattle.conn_parts.specs.Stopping.{StopCell, StopPass}
use Rattle.outside.specs.declared.last_image.Stored.{Stored}
use Rattle.gate_account.specs.Accounts.{Account, AllOver}
use Rattle.task_output.specs.Waiting.{LastIs}
use Rattle.task_taking.specs.Steps.{GaveFront, IsCutShort}

-- ---- what the gate gave

-- It gave so many barriers of each channel.
abbrev pub EachTold : Account → ℕ → Type 0
EachTold gate n = (c : ℕ) → c < gate.channels → length (gate.barriers c) ≡ n

-- ---- why it ends

-- All channels ended before it had acknowledged the last checkpoint, or a line or a barrier came after it had.
abbrev pub BreaksOrder : Stored → Option ℕ → List (ℕ × Stored) → Account → List (List (ℕ × List ℕ)) → List (ℕ × List ℕ) → Type 0
BreaksOrder base every history gate groups rest =
    (LastIs base every history (length groups) false × AllOver gate)
    ⊎ (LastIs base every history (length groups) true × ((rest ≢ []) ⊎ EachTold gate (suc (length groups))))

-- Where it acknowledged a checkpoint behind each of these groups from the base on and took the rest, it ends so only for these reasons.
abbrev pub IsTakerEnd : Stored → Option ℕ → List (ℕ × Stored) → Account → List (List (ℕ × List ℕ)) → List (ℕ × List ℕ) → Cause → Type 0
IsTakerEnd base every history gate groups rest causes.Done = AllOver gate × (rest ≡ []) × LastIs base every history (length groups) true
IsTakerEnd base every history gate groups rest causes.Stopped = ⊤
IsTakerEnd base every history gate groups rest (causes.Peer peers.Left) = IsCutShort gate
IsTakerEnd base every history gate groups rest (causes.Peer peers.Barrier) = GaveFront gate ⊎ BreaksOrder base every history gate groups rest
IsTakerEnd base every history gate groups rest causes.Memory = ⊤
IsTakerEnd base every history gate groups rest other = ⊥

-- ---- what it tells of its end

-- A fault was told to the stop cell by the task's own pass, and nothing else. It was stopped only where its pass had seen a fault, or
-- its gate had, and was done only where its pass had seen none.
pub record ToldStop (cell : StopCell) (saw_at_gate : Type 0) (cause : Cause) (before after : StopPass) : Type 0 where
  pub pass : IsPassOf cell after
  pub number_is : number after ≡ number before
  pub told : mine after ≡ mine before ++ told_of cause
  pub stopped : cause ≡ causes.Stopped → saw_at_gate ⊎ (seen after ≢ [])
  pub done : cause ≡ causes.Done → seen after ≡ []
