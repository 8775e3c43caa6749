-- The wires that a run gave back, behind those that were there before, where they are told. This is this project's own choice.
use Rattle.std.specs.Prelude.{◌≡◌, ℕ, ◌<◌, Bool, List, [], ◌∷◌, ◌++◌, length, slice_get, Option, Some, IfSome}
use Rattle.flow_defs.specs.Items.{Items}
use Rattle.outside.specs.declared.wires.Wire.{Wire}
use Rattle.conn_parts.specs.declared.share.LoopEnd.{LoopEnd}
use Rattle.job_workers.specs.declared.connection.LoopLeft.TheVariants.{ReadControl, ReadItems}
use Rattle.job_workers.specs.declared.place.Place.TheVariants.{Ended}
use Rattle.job_ends.specs.Ended.{LoopPlace}

-- Two ends tell that the same was read.
pub record ReadSame {I : Type 0} (got : I → Option (List ℕ)) (ended : I → Option Bool) (before after : I) : Type 0 where
  pub got_is : got after ≡ got before
  pub ended_is : ended after ≡ ended before

module _ {O I : Type 0} (got : I → Option (List ℕ)) (ended : I → Option Bool) where
  -- A wire like this one was given back.
  abbrev pub GaveBack : Option (List (Wire O I)) → Option (List (Wire O I)) → Wire O I → Type 0
  GaveBack old new wire = IfSome old (λ had. (back : Wire O I) × (new ≡ Some (had ++ back ∷ []))
      × ReadSame got ended wire.data_in back.data_in × ReadSame got ended wire.control_in back.control_in)

  -- The wire tells what the loops of an edge have read.
  pub record CameBack (row : List (LoopPlace O I)) (back : Wire O I) : Type 0 where
    pub items : (i : ℕ) (end : LoopEnd I) → slice_get row i ≡ Some (Ended (ReadItems end)) → ReadSame got ended end.half back.data_in
    pub control : (i : ℕ) (end : LoopEnd I) → slice_get row i ≡ Some (Ended (ReadControl end)) → ReadSame got ended end.half back.control_in

  abbrev pub RowCameBack : Option (List (Wire O I)) → Option (List (Wire O I)) → List (LoopPlace O I) → Type 0
  RowCameBack old new row = IfSome old (λ had. (back : Wire O I) × (new ≡ Some (had ++ back ∷ [])) × CameBack row back)

  -- So many edges have their wires among those that were given back, in order.
  abbrev pub RowsCameBack : Option (List (Wire O I)) → Option (List (Wire O I)) → List (Items (LoopPlace O I)) → ℕ → Type 0
  RowsCameBack old new loops many = IfSome old (λ had. (gave : List (Wire O I)) × (new ≡ Some (had ++ gave)) × (length gave ≡ many)
      × ((e : ℕ) (row : Items (LoopPlace O I)) → e < many → slice_get loops e ≡ Some row → (back : Wire O I) × (slice_get gave e ≡ Some back) × CameBack row.items back))
