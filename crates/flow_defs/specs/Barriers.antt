-- Barriers among what a channel carries. That a front barrier comes behind the last barrier and before all data is FLIP-76's.
use Rattle.std.specs.Prelude.{ℕ, Bool, true, false, ◌==◌, ◌||◌, List, [], ◌∷◌, ◌++◌, if◌then◌else◌, Option, Some, None}
use Rattle.std.specs.List.{list_any}
use Rattle.flow_defs.specs.declared.task.BarrierKind.{BarrierKind}
use Rattle.flow_defs.specs.declared.parcel.Parcel.{Parcel}
use Rattle.flow_defs.specs.declared.parcel.Parcel.TheVariants.{Data, Barrier, End}

-- The bytes of the data that stand before barrier k, and of all data where it is not there.
abbrev pub data_before : ℕ → List Parcel → List ℕ
data_before k [] = []
data_before k (Data bytes ∷ ps) = bytes ++ data_before k ps
data_before k (Barrier j kind ∷ ps) = if j == k then [] else data_before k ps
data_before k (End ∷ ps) = data_before k ps

-- Whether barrier k is there.
abbrev pub has_barrier : ℕ → List Parcel → Bool
has_barrier k [] = false
has_barrier k (Data bytes ∷ ps) = has_barrier k ps
has_barrier k (Barrier j kind ∷ ps) = (j == k) || has_barrier k ps
has_barrier k (End ∷ ps) = has_barrier k ps

-- The kind of the first barrier with number k among these.
abbrev pub kind_of : ℕ → List (ℕ × BarrierKind) → Option BarrierKind
kind_of k [] = None
kind_of k (barrier ∷ barriers) = if barrier.0 == k then Some barrier.1 else kind_of k barriers

-- Whether a parcel is a barrier.
abbrev pub is_barrier : Parcel → Bool
is_barrier (Data bytes) = false
is_barrier (Barrier k kind) = true
is_barrier End = false

-- Those up to the last one that passes a test, that one too, and those behind it.
module _ {X : Type 0} (test : X → Bool) where
  abbrev pub up_to_last : List X → List X
  up_to_last [] = []
  up_to_last (x ∷ xs) = if list_any test (x ∷ xs) then x ∷ up_to_last xs else []

  abbrev pub behind_last : List X → List X
  behind_last [] = []
  behind_last (x ∷ xs) = if list_any test (x ∷ xs) then behind_last xs else x ∷ xs
