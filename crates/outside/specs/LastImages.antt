-- What tells the workers of a job which image was stored last. A checkpoint's sources wait until the one before is complete; that
-- they learn it from a shared history, of which the collecting worker makes the entries, is this project's own.
use Rattle.std.specs.Prelude.{◌≡◌, ℕ, ◌<◌, List, [], Option, None}
use Rattle.std.specs.List.{last_or}
use Rattle.turn_cell.specs.History.{by, entries_of, IsHistory}
use Rattle.outside.specs.declared.last_image.Stored.{Stored}
use Rattle.outside.specs.declared.last_image.LastImage.{LastImage}

-- The pass of the collecting worker, which has the number 0, may add an entry, and no other.
abbrev pub MayStore : List (ℕ × Stored) → ℕ × Stored → Type 0
MayStore before entry = entry.0 ≡ 0

-- What the last entry says, if there is one.
abbrev pub last_stored : List (ℕ × Stored) → Option Stored
last_stored history = last_or None (entries_of history)

-- The state keeps the last entry of the history.
pub record KeepsLast (state : LastImage) (history : List (ℕ × Stored)) : Type 0 where
  pub last : state.stored ≡ last_stored history
  pub legal : IsHistory MayStore history

-- All entries are those of the collecting worker.
abbrev pub CollectorStoresAll : Type 0
CollectorStoresAll = (history : List (ℕ × Stored)) → IsHistory MayStore history → by 0 history ≡ entries_of history

-- A pass with another number has none.
abbrev pub OthersStoreNothing : Type 0
OthersStoreNothing = (history : List (ℕ × Stored)) (number : ℕ) → IsHistory MayStore history → 0 < number → by number history ≡ []
