-- What stops the workers of a job: the faults that were met, of which the first counts. This is this project's own choice.
use Rattle.std.specs.Prelude.{◌≡◌, ◌≢◌, ℕ, Bool, true, false, List, [], ◌∷◌, ◌++◌, Option, Some, None}
use Rattle.flow_defs.specs.declared.cause.Cause.{Cause}
use Rattle.flow_defs.specs.declared.cause.Cause.TheVariants.{Done, Stopped, Input, Keeper, Link, LongLine, BigSource, BigImage, OverCredit, Peer, Memory}
use Rattle.outside.specs.declared.stop.StopEntry.{StopEntry}
use Rattle.outside.specs.declared.stop.StopEntry.TheVariants.{Met}
use Rattle.outside.specs.declared.stop.StopState.{StopState}

-- Whether a cause is a fault that the worker met itself.
abbrev pub is_fault : Cause → Bool
is_fault Done = false
is_fault Stopped = false
is_fault (Input source) = true
is_fault Keeper = true
is_fault Link = true
is_fault (LongLine source) = true
is_fault (BigSource source) = true
is_fault BigImage = true
is_fault (OverCredit channel received announced) = true
is_fault (Peer fault) = true
is_fault Memory = true

-- The first fault of a history.
abbrev pub first_met : List (ℕ × StopEntry) → Option Cause
first_met [] = None
first_met ((n, Met cause) ∷ history) = Some cause

-- All entries are faults.
abbrev pub AreFaults : List (ℕ × StopEntry) → Type 0
AreFaults [] = Unit {0}
AreFaults ((n, Met cause) ∷ history) = (is_fault cause ≡ true) × AreFaults history

-- The state keeps the first fault of the history.
pub record StopsFor (state : StopState) (history : List (ℕ × StopEntry)) : Type 0 where
  pub first : state.met ≡ first_met history
  pub faults : AreFaults history

-- What a worker tells the others of its cause: a fault, and nothing where it is done or was stopped.
abbrev pub told_of : Cause → List StopEntry
told_of Done = []
told_of Stopped = []
told_of (Input source) = Met (Input source) ∷ []
told_of Keeper = Met Keeper ∷ []
told_of Link = Met Link ∷ []
told_of (LongLine source) = Met (LongLine source) ∷ []
told_of (BigSource source) = Met (BigSource source) ∷ []
told_of BigImage = Met BigImage ∷ []
told_of (OverCredit channel received announced) = Met (OverCredit channel received announced) ∷ []
told_of (Peer fault) = Met (Peer fault) ∷ []
told_of Memory = Met Memory ∷ []

-- A fault was told as the first one, or one had been met before.
abbrev pub ToldIfFirst : Cause → List StopEntry → List StopEntry → List (ℕ × StopEntry) → Bool → Type 0
ToldIfFirst cause before after history true = (after ≡ before ++ Met cause ∷ []) × (first_met history ≡ Some cause)
ToldIfFirst cause before after history false = (after ≡ before) × (first_met history ≢ None)
