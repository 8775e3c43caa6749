-- What a task took from its gate, parted by its snapshots. As in Flink a task snapshots where all its channels have given the barrier of a
-- checkpoint, which cuts each of them in line. That what it took is told channel by channel is this project's own choice.
use Rattle.std.specs.Prelude.{◌≡◌, ◌≢◌, ℕ, ◌<◌, Bool, true, false, List, [], length}
use Rattle.barriers.specs.Alignments.{Alignment, is_open}
use Rattle.channel_cut.specs.Cuts.{Cut}
use Rattle.channel_cut.specs.Takings.{TakenOn}
use Rattle.gate_account.specs.Accounts.{Account}
use Rattle.gate_account.specs.Aligning.{gave_at, IsInStepWhere, IsInStep}

-- Each channel of the gate has a sender of its own.
abbrev pub AreApart : ℕ → (ℕ → ℕ) → Type 0
AreApart channels sender = (c d : ℕ) → c < channels → d < channels → c ≢ d → sender c ≢ sender d

-- The task has taken these groups and these records of the channels of the gate, some of which wait.
abbrev pub HasTaken : Account → (ℕ → Cut → Type 0) → (ℕ → ℕ) → List (List (ℕ × List ℕ)) → List (ℕ × List ℕ) → (ℕ → Bool) → Type 0
HasTaken gate shows sender groups took waits = (c : ℕ) → c < gate.channels → TakenOn (shows c) (gate.lines c) (sender c) groups took (waits c)

-- The task takes on from the gate: they are in step, and it has snapshotted for each checkpoint that is closed.
pub record IsTaking (gate : Account) (shows : ℕ → Cut → Type 0) (sender : ℕ → ℕ) (a : Alignment) (groups : List (List (ℕ × List ℕ))) (took : List (ℕ × List ℕ)) : Type 0 where
  pub step : IsInStep gate a
  pub has : HasTaken gate shows sender groups took (gave_at a)
  pub counted : length groups ≡ a.closed

-- It is at a snapshot, to which the last of these groups belongs: all channels wait, and no checkpoint is open.
pub record IsAtSnapshot (gate : Account) (shows : ℕ → Cut → Type 0) (sender : ℕ → ℕ) (a : Alignment) (groups : List (List (ℕ × List ℕ))) : Type 0 where
  pub step : IsInStepWhere gate a (λ c. true)
  pub aligned : is_open a ≡ false
  pub has : HasTaken gate shows sender groups [] (λ c. false)
  pub counted : length groups ≡ a.closed
