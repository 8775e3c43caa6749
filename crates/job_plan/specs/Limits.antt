-- The limits of a source. That a longer line and a larger source are refused is this project's own.
use Rattle.std.specs.Prelude.{◌⊎◌, ℕ, ◌<◌, List, [], ◌∷◌, length}
use Rattle.flow_defs.specs.Limits.{record_max}
use Rattle.flow_defs.specs.Lines.{lines}

-- A source has at most so many bytes: 1 TiB.
abbrev pub source_max : ℕ
source_max = 1099511627776

-- One of the lines is longer than a record may be.
abbrev pub HasLongLine : List (List ℕ) → Type 0
HasLongLine [] = ⊥
HasLongLine (line ∷ rest) = (record_max < length line) ⊎ HasLongLine rest

-- A source passes a limit: it has more bytes than a source may have, or a line that is longer than a record may be.
abbrev pub IsOverLimit : List ℕ → Type 0
IsOverLimit bytes = (source_max < length bytes) ⊎ HasLongLine (lines bytes)
