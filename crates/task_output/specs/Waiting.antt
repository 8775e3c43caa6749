-- What a task learns of the images that were stored. As with Flink's default one checkpoint is open at a time. That a task tells the last
-- checkpoint of a job by the image before it is this project's own choice.
use Rattle.std.specs.Prelude.{◌≡◌, ℕ, zero, suc, ◌+◌, ◌≤◌, ⊤, Bool, true, false, List, [], length, Contains, Option, Some, None}
use Rattle.turn_cell.specs.History.{StartsWith, entries_of}
use Rattle.outside.specs.declared.last_image.Stored.{Stored}
use Rattle.outside.specs.LastImages.{last_stored}

-- By this history the image of this number is stored, or one behind it, and whether all sources are ended in the last one is as said.
pub record HasSeenStored (history : List (ℕ × Stored)) (number : ℕ) (all_ended : Bool) : Type 0 where
  pub stored : Stored
  pub last : last_stored history ≡ Some stored
  pub reached : number ≤ stored.number
  pub ended : stored.all_ended ≡ all_ended

-- From which image a run goes on: its number, and whether all sources are ended in it.
module _ (base : Stored) where
  -- Whether the checkpoint behind so many others is the last of the job. Without an interval the first is. With one it is where all sources
  -- are ended in the image before.
  abbrev pub KnowsLast : Option ℕ → List (ℕ × Stored) → ℕ → Bool → Type 0
  KnowsLast None history before last = last ≡ true
  KnowsLast (Some interval) history zero last = last ≡ base.all_ended
  KnowsLast (Some interval) history (suc before) last = HasSeenStored history (base.number + suc before) last

  -- Whether the last of so many checkpoints that it has acknowledged is the last of the job, as it has seen.
  abbrev pub LastIs : Option ℕ → List (ℕ × Stored) → ℕ → Bool → Type 0
  LastIs every history zero last = last ≡ false
  LastIs every history (suc before) last = KnowsLast every history before last

  -- A task may end its channels where it has acknowledged the last checkpoint, with these groups of records, and nothing comes behind them.
  abbrev pub MayEnd : {A B : Type 0} → Option ℕ → List (ℕ × Stored) → List A → List B → Type 0
  MayEnd every history groups rest = LastIs every history (length groups) true × (rest ≡ [])

  -- Where a task has sent so many snapshots one by one, it has seen by this history the image before the last of them, or one behind that.
  -- The first comes behind the image from which the run goes on.
  abbrev pub HasWaited : ℕ → List (ℕ × Stored) → Type 0
  HasWaited zero history = ⊤
  HasWaited (suc zero) history = ⊤
  HasWaited (suc (suc before)) history = (stored : Stored) × Contains (entries_of history) stored × (base.number + suc before ≤ stored.number)

-- So it has where it has seen that one.
abbrev pub SeenIsWaited : Type 0
SeenIsWaited =
    (base : Stored) (history : List (ℕ × Stored)) (sent : ℕ) (all_ended : Bool) → HasSeenStored history (base.number + sent) all_ended → HasWaited base (suc sent) history

-- And it stays so.
abbrev pub WaitedStays : Type 0
WaitedStays = (base : Stored) (count : ℕ) (history later : List (ℕ × Stored)) → StartsWith later history → HasWaited base count history → HasWaited base count later
