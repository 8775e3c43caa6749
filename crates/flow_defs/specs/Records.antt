-- Records and their encoding. As in Flink's network stack a record is laid down as its length and
-- then its bytes, end to end with the others, and is cut wherever a buffer is full. The limit of a
-- record and the width of its length are this project's own.
use Rattle.std.specs.Prelude.{◌≡◌, ℕ, zero, suc, ◌≤◌, ◌||◌, nat_lt, List, [], ◌∷◌, ◌++◌, length, take, drop, flat_map, if◌then◌else◌, Option, Some, None}
use Rattle.std.specs.Option.{option_map_or}
use Rattle.std.specs.List.{AllByRecursion}
use Rattle.std.specs.Int.{w32, to_be_bytes, from_be_bytes}
use Rattle.flow_defs.specs.Limits.{record_max}

-- A length as four bytes, the highest first.
unfoldable pub length_bytes : ℕ → List ℕ
length_bytes len = to_be_bytes w32 len

-- A record's encoding: its length, and then its bytes.
abbrev pub encoded : List ℕ → List ℕ
encoded r = length_bytes (length r) ++ r

-- The encodings of records, end to end.
abbrev pub all_encoded : List (List ℕ) → List ℕ
all_encoded records = flat_map encoded records

-- No longer than a record may be.
abbrev pub IsShort : List ℕ → Type 0
IsShort r = length r ≤ record_max

-- The bytes are spanned by these records: they are the encodings of these and nothing else.
pub record IsSpans (bytes : List ℕ) (records : List (List ℕ)) : Type 0 where
  pub whole : all_encoded records ≡ bytes
  pub short : AllByRecursion IsShort records

-- The first record that the bytes encode, with what stands behind it, where a whole one stands there.
abbrev pub first_record : List ℕ → Option (List ℕ × List ℕ)
first_record bytes =
    let len = from_be_bytes w32 (take 4 bytes) in
    let behind = drop 4 bytes in
    if nat_lt (length bytes) 4 || nat_lt record_max len || nat_lt (length behind) len then None else Some (take len behind, drop len behind)

-- The records that the bytes encode, at most so many.
abbrev pub spans_within : ℕ → List ℕ → List (List ℕ)
spans_within zero bytes = []
spans_within (suc most) bytes = option_map_or (λ found. found.0 ∷ spans_within most found.1) (first_record bytes) []

-- The records that the bytes encode, from the first on. Where records span the bytes these are they, and no others do.
unfoldable pub spans : List ℕ → List (List ℕ)
spans bytes = spans_within (length bytes) bytes
