-- What a segment is once a `&mut` to its bytes has been returned and written through.
use Rattle.std.specs.Prelude.{ℕ, List, length}
use Rattle.std.specs.List.{refill}
use Rattle.std.specs.Borrow.{Lends, Fml, MutBor, Array, u8 as byte}
use Rattle.segment_pool.specs.contracts.segment.Segment.{the_row}

-- once the borrow r ends, the segment has the bytes that r showed last, of which there are as many
abbrev pub lends_segment : MutBor (List ℕ) → MutBor (List ℕ) → Fml
lends_segment s r = Lends the_row (Array byte 0) s r (refill (length s.now) s.now)
