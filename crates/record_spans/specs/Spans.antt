-- How bytes begin, for one who reads records off them.
use Rattle.std.specs.Prelude.{◌≡◌, ℕ, ◌<◌, ◌^◌, List, [], ◌∷◌, ◌++◌}
use Rattle.flow_defs.specs.Limits.{record_max}
use Rattle.flow_defs.specs.Records.{length_bytes, encoded, all_encoded, IsShort, IsSpans}

-- The bytes begin with the encoding of this record, and these follow it.
pub record BeginsWith (bytes r more : List ℕ) : Type 0 where
  pub bytes_are : bytes ≡ encoded r ++ more
  pub short : IsShort r

-- The bytes begin with this length, which is no record's.
pub record BeginsTooLong (bytes : List ℕ) (len : ℕ) : Type 0 where
  pub more : List ℕ
  pub bytes_are : bytes ≡ length_bytes len ++ more
  pub in_range : len < 2 ^ 32
  pub above : record_max < len

-- The bytes begin with no whole record, and with no length that is no record's.
pub record HasNoRecord (bytes : List ℕ) : Type 0 where
  pub no_record : (r more : List ℕ) → BeginsWith bytes r more → ⊥
  pub no_length : (len : ℕ) → BeginsTooLong bytes len → ⊥

-- Whatever records span the bytes and those that are still to come, this one is the first of them,
-- and the later ones span the rest.
abbrev pub IsFirstSpan : List ℕ → List ℕ → List ℕ → Type 0
IsFirstSpan bytes r rest =
    (records : List (List ℕ)) (coming : List ℕ) → IsSpans (bytes ++ coming) records
    → (later : List (List ℕ)) × (records ≡ r ∷ later) × IsSpans (rest ++ coming) later

-- The bytes are spanned by no records but none.
abbrev pub IsSpannedByNone : List ℕ → Type 0
IsSpannedByNone bytes = (records : List (List ℕ)) → IsSpans bytes records → records ≡ []

-- The encodings of the records given, and then the rest, are the bytes fed.
abbrev pub HasGiven : List ℕ → List (List ℕ) → List ℕ → Type 0
HasGiven fed given rest = fed ≡ all_encoded given ++ rest
