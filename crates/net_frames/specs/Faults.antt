-- What comes of reading bytes: the frame that they begin with, or a fault. The faults and the order of
-- the checks are this project's own.
use Rattle.std.specs.Prelude.{◌≡◌, ℕ, ◌+◌, ◌≤◌, Bool, false, not, ◌||◌, ◌==◌, nat_lt, List, [], ◌∷◌, ◌++◌, length, take, drop, if◌then◌else◌, Option, Some, None, is_none, unwrap_or}
use Rattle.std.specs.Option.{option_map_or}
use Rattle.std.specs.Int.{Width, w8, w32, byte_len, from_be_bytes}
use Rattle.net_frames.specs.Limits.{frame_min, frame_max, magic}
use Rattle.net_frames.specs.declared.frame.Frame.{Frame}
use Rattle.net_frames.specs.declared.fault.FrameFault.{FrameFault}
use Rattle.net_frames.specs.declared.fault.FrameFault.TheVariants.{NeedMore, BadLength, BadMagic, BadId, BadBody}
use Rattle.net_frames.specs.declared.decoding.Decoded.{Decoded}
use Rattle.net_frames.specs.declared.decoding.Span.{Span}
use Rattle.net_frames.specs.Kinds.{kind_with, may_have}
use Rattle.net_frames.specs.Frames.{Begins}

-- The number of this width at a place of the bytes.
unfoldable pub number_at : Width → ℕ → List ℕ → ℕ
number_at w place bytes = from_be_bytes w (take (byte_len w) (drop place bytes))

-- The length, the magic number and the id that the bytes begin with.
abbrev pub len_at : List ℕ → ℕ
len_at bytes = number_at w32 0 bytes

abbrev pub magic_at : List ℕ → ℕ
magic_at bytes = number_at w32 4 bytes

abbrev pub id_at : List ℕ → ℕ
id_at bytes = number_at w8 8 bytes

-- The fault of the first test that holds.
abbrev pub first_that_holds : List (Bool × FrameFault) → Option FrameFault
first_that_holds [] = None
first_that_holds (test ∷ tests) = if test.0 then Some test.1 else first_that_holds tests

-- Whether the kind with this id, if there is one, may not have this length.
abbrev pub is_wrong_len : ℕ → ℕ → Bool
is_wrong_len id len = option_map_or (λ kind. not (may_have kind len)) (kind_with id) false

-- The tests of bytes, with their faults, in order.
abbrev pub tests : List ℕ → List (Bool × FrameFault)
tests bytes =
    (nat_lt (length bytes) 4, NeedMore)
    ∷ (nat_lt (len_at bytes) frame_min || nat_lt frame_max (len_at bytes), BadLength (len_at bytes))
    ∷ (nat_lt (length bytes) 8, NeedMore)
    ∷ (not (magic_at bytes == magic), BadMagic (magic_at bytes))
    ∷ (nat_lt (length bytes) 9, NeedMore)
    ∷ (is_none (kind_with (id_at bytes)), BadId (id_at bytes))
    ∷ (is_wrong_len (id_at bytes) (len_at bytes), BadBody (id_at bytes))
    ∷ (nat_lt (length bytes) (len_at bytes), NeedMore)
    ∷ []

-- The fault of bytes that begin with no frame: that of the first test that holds, and where none does
-- a number of the body is out of its range.
abbrev pub first_fault : List ℕ → FrameFault
first_fault bytes = unwrap_or (first_that_holds (tests bytes)) (BadBody (id_at bytes))

-- The bytes of a span.
abbrev pub in_span : List ℕ → Span → List ℕ
in_span bytes span = take span.len (drop span.from bytes)

-- The frame that was found is the one that the bytes begin with, its content is the span, which ends
-- the frame, and so many bytes are used.
pub record IsFound (bytes : List ℕ) (found : Decoded) : Type 0 where
  pub begins : Begins bytes found.frame (in_span bytes found.content) (drop found.used bytes)
  pub ends : found.content.from + found.content.len ≡ found.used
  pub within : found.used ≤ length bytes

-- This frame with this content was found, and the rest follows.
pub record HasFound (bytes : List ℕ) (frame : Frame) (content rest : List ℕ) (found : Decoded) : Type 0 where
  pub frame_is : found.frame ≡ frame
  pub content_is : in_span bytes found.content ≡ content
  pub rest_is : drop found.used bytes ≡ rest

-- The bytes begin with no frame, whatever follows them.
abbrev pub CannotBegin : List ℕ → Type 0
CannotBegin bytes = (more : List ℕ) (frame : Frame) (content rest : List ℕ) → Begins (bytes ++ more) frame content rest → ⊥
