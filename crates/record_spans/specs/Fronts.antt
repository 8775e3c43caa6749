-- What the reader sees at the front of its bytes.
use Rattle.std.specs.Prelude.{ℕ, ◌+◌, ◌≤◌, List, length, take, drop}
use Rattle.record_spans.specs.declared.reader.Front.{Front}
use Rattle.record_spans.specs.declared.reader.Front.TheVariants.{Cut, TooLong, Record}
use Rattle.record_spans.specs.Spans.{BeginsWith, BeginsTooLong, HasNoRecord}

-- The bytes begin so.
abbrev pub IsFront : List ℕ → Front → Type 0
IsFront bytes Cut = HasNoRecord bytes
IsFront bytes (TooLong len) = BeginsTooLong bytes len
IsFront bytes (Record len) = BeginsWith bytes (take len (drop 4 bytes)) (drop (4 + len) bytes) × (4 + len ≤ length bytes)
