-- What a channel carries, in the order in which it travels. As in Flink's network stack, events stand
-- in line with the data buffers; barriers are those of FLIP-76, and they count from 1.
use Rattle.std.specs.Prelude.{ℕ, Bool, true, false, List, [], ◌∷◌, ◌++◌}
use Rattle.flow_defs.specs.declared.parcel.Parcel.{Parcel}
use Rattle.flow_defs.specs.declared.parcel.Parcel.TheVariants.{Data, Barrier, End}
use Rattle.flow_defs.specs.declared.task.BarrierKind.{BarrierKind}

-- The bytes of all data.
abbrev pub data_of : List Parcel → List ℕ
data_of [] = []
data_of (Data bytes ∷ ps) = bytes ++ data_of ps
data_of (Barrier k kind ∷ ps) = data_of ps
data_of (End ∷ ps) = data_of ps

-- The barriers, each with its number and its kind.
abbrev pub barriers_of : List Parcel → List (ℕ × BarrierKind)
barriers_of [] = []
barriers_of (Data bytes ∷ ps) = barriers_of ps
barriers_of (Barrier k kind ∷ ps) = (k, kind) ∷ barriers_of ps
barriers_of (End ∷ ps) = barriers_of ps

-- Whether the end is there.
abbrev pub has_end : List Parcel → Bool
has_end [] = false
has_end (Data bytes ∷ ps) = has_end ps
has_end (Barrier k kind ∷ ps) = has_end ps
has_end (End ∷ ps) = true

-- Whether a parcel is data, which takes a buffer and costs credit.
abbrev pub is_data : Parcel → Bool
is_data (Data bytes) = true
is_data (Barrier k kind) = false
is_data End = false
