-- A gate beside the alignment of its task. As Flink's documentation has it, a channel whose barrier has come is read no further until the
-- barriers of all others have come. That the two are compared by how many barriers each channel gave, and how many of them were resumed, is
-- this project's own choice.
use Rattle.std.specs.Prelude.{◌≡◌, ℕ, ◌+◌, ◌<◌, ◌==◌, Bool, true, false, List, [], ◌∷◌, length, slice_index_or, if◌then◌else◌}
use Rattle.flow_defs.specs.declared.task.BarrierKind.{BarrierKind}
use Rattle.flow_defs.specs.declared.task.BarrierKind.TheVariants.{Inline}
use Rattle.barriers.specs.Alignments.{Alignment, MayGive, alignment_next, barrier, given_by, is_last, is_open, unaligned}
use Rattle.gate_account.specs.Accounts.{Account, IsNew, inlines, IsBlocked, GaveNothing, GaveOf, IsNext, Resumed, ResumedAll}

-- ---- a gate and its alignment

-- Whether a channel has given the barrier of the next checkpoint to be closed.
abbrev pub gave_at : Alignment → ℕ → Bool
gave_at a c = slice_index_or a.gave c false

-- A channel that waits is behind one inline barrier that was not resumed.
abbrev pub weight : Bool → ℕ
weight waits = if waits then 1 else 0

-- The alignment counts the barriers that each channel gave, and just these channels wait. So far barriers come in line, so the task doesn't
-- save.
pub record IsInStepWhere (gate : Account) (a : Alignment) (waits : ℕ → Bool) : Type 0 where
  pub width : length a.gave ≡ gate.channels
  pub still : a.saving ≡ false
  pub barriers : (c : ℕ) → c < gate.channels → length (gate.barriers c) ≡ given_by a c
  pub resumed : (c : ℕ) → c < gate.channels → inlines (gate.barriers c) ≡ gate.resumed c + weight (waits c)

-- The task takes on: those channels wait that have given the barrier of the open checkpoint.
abbrev pub IsInStep : Account → Alignment → Type 0
IsInStep gate a = IsInStepWhere gate a (gave_at a)

-- ---- what the gate gives

-- A new gate and a new alignment are in step,
abbrev pub NewAreInStep : Type 0
NewAreInStep = (flight : ℕ → List ℕ) (gate : Account) → IsNew flight gate → IsInStep gate (unaligned gate.channels)

-- and stay so where nothing is given,
abbrev pub NothingIsInStep : Type 0
NothingIsInStep = (gate now : Account) (a : Alignment) → IsInStep gate a → now.channels ≡ gate.channels → GaveNothing gate now → IsInStep now a

-- or a line.
abbrev pub LineIsInStep : Type 0
LineIsInStep =
    (gate now : Account) (a : Alignment) (c : ℕ) (line : List ℕ) → IsInStep gate a → now.channels ≡ gate.channels →
    GaveOf gate now c (line ∷ []) [] → IsInStep now a

-- Where barriers are held back while a checkpoint is open, the one that is given is that of the next checkpoint to be closed, and its channel
-- has not given it.
abbrev pub NextIsInTurn : Type 0
NextIsInTurn =
    (gate now : Account) (a : Alignment) (c k : ℕ) (kind : BarrierKind) → IsInStep gate a → c < gate.channels → IsNext gate now (is_open a) c k →
    MayGive a (barrier c k kind)

-- An inline barrier leaves its channel waiting, where others are missing,
abbrev pub BlockIsInStep : Type 0
BlockIsInStep =
    (gate now : Account) (a : Alignment) (c k : ℕ) → IsInStep gate a → is_last a (barrier c k Inline) ≡ false → now.channels ≡ gate.channels →
    IsNext gate now (is_open a) c k → GaveOf gate now c [] ((k, Inline) ∷ []) → IsInStep now (alignment_next a (barrier c k Inline))

-- and the last one leaves all waiting.
abbrev pub CloseIsInStep : Type 0
CloseIsInStep =
    (gate now : Account) (a : Alignment) (c k : ℕ) → IsInStep gate a → is_last a (barrier c k Inline) ≡ true → now.channels ≡ gate.channels →
    IsNext gate now (is_open a) c k → GaveOf gate now c [] ((k, Inline) ∷ []) → IsInStepWhere now (alignment_next a (barrier c k Inline)) (λ d. true)

-- ---- what the task resumes

-- A channel that waits can be resumed,
abbrev pub WaitingIsBlocked : Type 0
WaitingIsBlocked = (gate : Account) (a : Alignment) (waits : ℕ → Bool) (c : ℕ) → IsInStepWhere gate a waits → c < gate.channels → waits c ≡ true → IsBlocked gate c

-- and then waits no longer.
abbrev pub ResumedIsInStep : Type 0
ResumedIsInStep =
    (gate now : Account) (a : Alignment) (waits : ℕ → Bool) (c : ℕ) → IsInStepWhere gate a waits → waits c ≡ true → now.channels ≡ gate.channels →
    Resumed gate now c → IsInStepWhere now a (λ d. if d == c then false else waits d)

-- Where all waited, and no checkpoint is open, the task takes on once all are resumed.
abbrev pub AllResumedIsInStep : Type 0
AllResumedIsInStep =
    (gate now : Account) (a : Alignment) → IsInStepWhere gate a (λ c. true) → is_open a ≡ false → now.channels ≡ gate.channels →
    ResumedAll gate now → IsInStep now a
