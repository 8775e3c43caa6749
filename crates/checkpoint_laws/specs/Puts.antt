-- What a task puts on a channel, cut where its barriers stand. As in FLIP-76 a barrier parts what
-- belongs to one checkpoint from what belongs to the next; that it parts the data where it was put,
-- whether it then travels in line or in front, is this project's own way to say so.
use Rattle.std.specs.Prelude.{ℕ, List, [], ◌∷◌, ◌++◌, take, flat_map}
use Rattle.flow_defs.specs.declared.parcel.Parcel.{Parcel}
use Rattle.flow_defs.specs.declared.parcel.Parcel.TheVariants.{Data, Barrier, End}

-- The stretches with these bytes before the first one.
abbrev pub onto_first : List ℕ → List (List ℕ) → List (List ℕ)
onto_first bytes [] = bytes ∷ []
onto_first bytes (stretch ∷ rest) = (bytes ++ stretch) ∷ rest

-- The data before the first barrier, then from each barrier to the next one, and behind the last one.
-- There is one stretch more than there are barriers.
abbrev pub stretches : List Parcel → List (List ℕ)
stretches [] = [] ∷ []
stretches (Data bytes ∷ ps) = onto_first bytes (stretches ps)
stretches (Barrier k kind ∷ ps) = [] ∷ stretches ps
stretches (End ∷ ps) = stretches ps

-- The data before the barrier that is the k-th one.
abbrev pub put_before : ℕ → List Parcel → List ℕ
put_before k ps = flat_map (λ stretch. stretch) (take k (stretches ps))
