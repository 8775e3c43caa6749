-- Links in memory: what was written and read over one, by the history of its turns. Pass 0 writes and finishes, and pass 1 reads.
-- A bounded buffer between a writer and a reader is this project's own choice.
use Rattle.std.specs.Prelude.{◌≡◌, ℕ, Bool, true, false, List, [], ◌∷◌, ◌++◌}
use Rattle.turn_cell.specs.History.{by, StartsWith}
use Rattle.outside.specs.declared.ring.LinkEntry.{LinkEntry}
use Rattle.outside.specs.declared.ring.LinkEntry.TheVariants.{Wrote, Read, Finished}
use Rattle.outside.specs.declared.ring.Ring.{Ring}

-- The bytes that were written, in order.
abbrev pub bytes_written : List LinkEntry → List ℕ
bytes_written [] = []
bytes_written (Wrote bytes ∷ es) = bytes ++ bytes_written es
bytes_written (Read bytes ∷ es) = bytes_written es
bytes_written (Finished ∷ es) = bytes_written es

-- The bytes that were read, in order.
abbrev pub bytes_read : List LinkEntry → List ℕ
bytes_read [] = []
bytes_read (Wrote bytes ∷ es) = bytes_read es
bytes_read (Read bytes ∷ es) = bytes ++ bytes_read es
bytes_read (Finished ∷ es) = bytes_read es

-- Whether it was said that nothing more is written.
abbrev pub has_finished : List LinkEntry → Bool
has_finished [] = false
has_finished (Wrote bytes ∷ es) = has_finished es
has_finished (Read bytes ∷ es) = has_finished es
has_finished (Finished ∷ es) = true

-- Once that was said, nothing more was written.
abbrev pub EndsThere : List LinkEntry → Type 0
EndsThere [] = Unit {0}
EndsThere (Wrote bytes ∷ es) = EndsThere es
EndsThere (Read bytes ∷ es) = EndsThere es
EndsThere (Finished ∷ es) = bytes_written es ≡ []

-- The ring holds what pass 0 wrote and pass 1 has not read.
pub record Carries (ring : Ring) (history : List (ℕ × LinkEntry)) : Type 0 where
  pub carried : bytes_written (by 0 history) ≡ bytes_read (by 1 history) ++ ring.bytes
  pub finished : ring.finished ≡ has_finished (by 0 history)

-- What was read is a front of what was written.
abbrev pub IsFront : List (ℕ × LinkEntry) → Type 0
IsFront history = StartsWith (bytes_written (by 0 history)) (bytes_read (by 1 history))

-- All that was written was read, and nothing more is written.
abbrev pub IsAll : List (ℕ × LinkEntry) → Type 0
IsAll history = (bytes_read (by 1 history) ≡ bytes_written (by 0 history)) × (has_finished (by 0 history) ≡ true)
