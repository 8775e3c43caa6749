-- Why workers ended, and what a run comes to. As in Flink the first failure of a task fails the job; that its status is that of the first
-- entry of the stop cell is this project's own.
use Rattle.std.specs.Prelude.{◌≡◌, ◌⊎◌, ℕ, ◌<◌, ◌≤◌, ⊤, false, List, length, drop, slice_get, slice_index, unwrap_or, Option, Some, None, IfSome}
use Rattle.flow_defs.specs.Items.{Items}
use Rattle.flow_defs.specs.declared.cause.Cause.{Cause}
use Rattle.flow_defs.specs.declared.cause.Cause.TheVariants as causes
use Rattle.flow_defs.specs.declared.cause.PeerFault.{PeerFault}
use Rattle.flow_defs.specs.declared.image.Image.{Image}
use Rattle.flow_defs.specs.declared.job.Job.{Job}
use Rattle.flow_defs.specs.Jobs.{tasks}
use Rattle.flow_defs.specs.Lines.{lines}
use Rattle.outside.specs.Faults.{HasRisen}
use Rattle.collecting_worker.specs.declared.world.CollectEnd.{CollectEnd}
use Rattle.job_plan.specs.Limits.{HasLongLine, IsOverLimit, source_max}
use Rattle.job_workers.specs.declared.connection.LoopLeft.TheVariants.{SentItems, ReadControl, ReadItems, SentControl}
use Rattle.job_workers.specs.declared.collecting.CollectTask.{CollectTask}
use Rattle.job_workers.specs.declared.place.Place.{Place}
use Rattle.job_workers.specs.declared.place.Place.TheVariants.{Todo, Ended, Vacant}
use Rattle.job_ends.specs.Ended.{TaskPlace, LoopPlace}
use Rattle.job_outcome.specs.Grounds.{IsOverByOne}

-- Why the worker of a place ended, if it has ended.
abbrev pub cause_of_task : {S : Type 0} → TaskPlace S → Option Cause
cause_of_task (Todo worker) = None
cause_of_task (Ended left) = Some left.cause
cause_of_task Vacant = None

abbrev pub cause_of_loop : {O I : Type 0} → LoopPlace O I → Option Cause
cause_of_loop (Todo worker) = None
cause_of_loop (Ended (SentItems end)) = Some end.cause
cause_of_loop (Ended (ReadControl end)) = Some end.cause
cause_of_loop (Ended (ReadItems end)) = Some end.cause
cause_of_loop (Ended (SentControl end)) = Some end.cause
cause_of_loop Vacant = None

abbrev pub cause_of_collector : Place CollectTask CollectEnd → Option Cause
cause_of_collector (Todo task) = None
cause_of_collector (Ended end) = Some end.cause
cause_of_collector Vacant = None

-- Something stands at place i of row s.
pub record StandsAt {A : Type 0} (rows : List (Items A)) (s i : ℕ) (place : A) : Type 0 where
  pub row : Items A
  pub row_is : slice_get rows s ≡ Some row
  pub place_is : slice_get row.items i ≡ Some place

module _ {S O I : Type 0} (rows : List (Items (TaskPlace S))) (loops : List (Items (LoopPlace O I))) (collected : Place CollectTask CollectEnd) where
  -- All workers are done.
  pub record AllDone : Type 0 where
    pub by_tasks : (s i : ℕ) (place : TaskPlace S) → StandsAt rows s i place → cause_of_task place ≡ Some causes.Done
    pub by_loops : (e i : ℕ) (place : LoopPlace O I) → StandsAt loops e i place → cause_of_loop place ≡ Some causes.Done
    pub by_collector : cause_of_collector collected ≡ Some causes.Done

  -- One of them ended with this cause.
  abbrev pub HasEnded : Cause → Type 0
  HasEnded cause =
      ((s i : ℕ) × ((place : TaskPlace S) × StandsAt rows s i place × (cause_of_task place ≡ Some cause)))
      ⊎ ((e i : ℕ) × ((place : LoopPlace O I) × StandsAt loops e i place × (cause_of_loop place ≡ Some cause)))
      ⊎ (cause_of_collector collected ≡ Some cause)

-- ---- inputs

-- These are told to be the bytes of the sources' inputs.
abbrev pub AreTold : {S : Type 0} → (S → Option (List ℕ)) → List S → (ℕ → List ℕ) → Type 0
AreTold {S} left inputs bytes = (a : ℕ) (input : S) → slice_get inputs a ≡ Some input → left input ≡ Some (bytes a)

-- No source of the job is over a limit.
abbrev pub AreWithin : Job → (ℕ → List ℕ) → Type 0
AreWithin job bytes = (a : ℕ) → a < tasks job 0 → IsOverLimit (bytes a) → ⊥

-- From this image on none is: a source that was not at its end there has at most so many bytes, and no line behind its offset is too long.
abbrev pub AreWithinFrom : Job → Image → (ℕ → List ℕ) → Type 0
AreWithinFrom job base bytes = (a : ℕ) → a < tasks job 0 → unwrap_or (slice_get base.ended.items a) false ≡ false →
    (length (bytes a) ≤ source_max) × (HasLongLine (drop (slice_index base.offsets.items a) (lines (bytes a))) → ⊥)

-- The inputs come back in order, and none has fewer faults.
pub record ComeBack {S : Type 0} (faults : S → ℕ) (before after : List S) : Type 0 where
  pub many : length after ≡ length before
  pub each : (a : ℕ) (old new : S) → slice_get before a ≡ Some old → slice_get after a ≡ Some new → faults old ≤ faults new

-- ---- why a run ends without a table

module _ {S : Type 0} (left : S → Option (List ℕ)) (faults : S → ℕ) (before after : List S) where
  -- The input of source a, and what was told of it.
  pub record IsOfInput (a : ℕ) (P : Option (List ℕ) → ℕ → ℕ → Type 0) : Type 0 where
    pub old : S
    pub new : S
    pub was : slice_get before a ≡ Some old
    pub is : slice_get after a ≡ Some new
    pub holds : P (left old) (faults old) (faults new)

  -- A cause has its grounds: a fault of the source, of a link or of the keeper, a source over a limit, data over the credit by one, an image
  -- that is too large, or a fault of a connection's other end.
  abbrev pub IsRunCause : Type 0 → (PeerFault → Type 0) → Type 0 → Type 0 → Cause → Type 0
  IsRunCause link peer keeper big causes.Done = ⊥
  IsRunCause link peer keeper big causes.Stopped = ⊥
  IsRunCause link peer keeper big (causes.Input a) = IsOfInput a (λ told fell rose. HasRisen fell rose)
  IsRunCause link peer keeper big causes.Keeper = keeper
  IsRunCause link peer keeper big causes.Link = link
  IsRunCause link peer keeper big (causes.LongLine a) = IsOfInput a (λ told fell rose. IfSome told (λ bytes. HasLongLine (lines bytes)))
  IsRunCause link peer keeper big (causes.BigSource a) = IsOfInput a (λ told fell rose. IfSome told (λ bytes. source_max < length bytes))
  IsRunCause link peer keeper big causes.BigImage = big
  IsRunCause link peer keeper big (causes.OverCredit channel received announced) = IsOverByOne received announced
  IsRunCause link peer keeper big (causes.Peer fault) = peer fault
  IsRunCause link peer keeper big causes.Memory = ⊤
