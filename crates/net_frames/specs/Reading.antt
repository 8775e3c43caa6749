-- How a body is read, once length, magic number and id are known to be right. It serves the functions
-- that read; no public contract cites it.
use Rattle.std.specs.Prelude.{◌≡◌, ℕ, ◌-◌, ◌≤◌, true, ◌&&◌, ◌==◌, nat_le, List, length, if◌then◌else◌, Option, Some, None}
use Rattle.std.specs.Int.{Width, w8, w32, w64}
use Rattle.flow_defs.specs.declared.task.ChannelId.{ChannelId}
use Rattle.net_frames.specs.Limits.{frame_min, frame_max, magic, error_max}
use Rattle.flow_defs.specs.Limits.{credit_max, segment_min, segment_max}
use Rattle.net_frames.specs.declared.frame.Frame.{Frame}
use Rattle.net_frames.specs.declared.frame.Frame.TheVariants.{BufferResponse, ErrorResponse, PartitionRequest, Close, AddCredit, ResumeConsumption, BacklogAnnouncement, NewBufferSize}
use Rattle.net_frames.specs.declared.frame.ArrivalKind2.{ArrivalKind2}
use Rattle.net_frames.specs.declared.frame.ArrivalKind2.TheVariants.{Buffer, Inline, Front, End}
use Rattle.net_frames.specs.declared.kind.Kind.{Kind}
use Rattle.net_frames.specs.declared.kind.Kind.TheVariants as kinds
use Rattle.net_frames.specs.Faults.{number_at, len_at, magic_at, id_at}
use Rattle.net_frames.specs.Kinds.{kind_with, may_have}
use Rattle.net_frames.specs.Frames.{head_len}
use Rattle.net_frames.specs.declared.decoding.Span.{Span}

-- The bytes begin with a whole frame of this kind and length, so far as its first three numbers tell.
pub record IsHeader (bytes : List ℕ) (kind : Kind) (len : ℕ) : Type 0 where
  pub len_is : len_at bytes ≡ len
  pub least : frame_min ≤ len
  pub most : len ≤ frame_max
  pub magic_is : magic_at bytes ≡ magic
  pub kind_is : kind_with (id_at bytes) ≡ Some kind
  pub may_have_len : may_have kind len ≡ true
  pub whole : len ≤ length bytes

-- The content of a frame that takes so many bytes lies at its end.
abbrev pub content_span : Frame → ℕ → Span
content_span frame used = record { from = head_len frame; len = used - head_len frame }

infixl 10 ◌>>=◌
abbrev pub ◌>>=◌ : {A B : Type 0} → Option A → (A → Option B) → Option B
(Some x) >>= f = f x
None >>= f = None

-- The channel that each body but that of a closing frame begins with.
abbrev pub channel_in : List ℕ → Option ChannelId
channel_in bytes =
    if number_at w32 21 bytes == 0
    then Some (record { edge = number_at w32 9 bytes; from = number_at w32 13 bytes; to = number_at w32 17 bytes })
    else None

-- A number at a place, where it is in this range.
abbrev pub ranged : Width → ℕ → ℕ → ℕ → List ℕ → Option ℕ
ranged w place least most bytes =
    let n = number_at w place bytes in
    if nat_le least n && nat_le n most then Some n else None

-- The number of the barrier that a buffer response brings.
abbrev pub barrier_in : List ℕ → Option ℕ
barrier_in bytes = let k = number_at w64 39 bytes in if nat_le 1 k then Some k else None

-- What a buffer response of this kind brings, where its content has this length.
abbrev pub arrival_of : ℕ → ℕ → List ℕ → Option ArrivalKind2
arrival_of kind len bytes =
    if kind == 0 && nat_le 1 len then Some Buffer
    else if kind == 1 && len == 8 then barrier_in bytes >>= (λ k. Some (Inline k))
    else if kind == 2 && len == 8 then barrier_in bytes >>= (λ k. Some (Front k))
    else if kind == 3 && len == 0 then Some End
    else None

abbrev pub arrival_in : List ℕ → Option ArrivalKind2
arrival_in bytes =
    if number_at w8 34 bytes == 0 && number_at w32 35 bytes == length bytes - 39
    then arrival_of (number_at w8 33 bytes) (length bytes - 39) bytes
    else None

-- The frame of a kind that takes all of these bytes.
unfoldable pub frame_in : Kind → List ℕ → Option Frame
frame_in kinds.Buffer bytes = do
  channel ← channel_in bytes
  backlog ← ranged w32 29 0 credit_max bytes
  what ← arrival_in bytes
  Some (BufferResponse channel (number_at w32 25 bytes) backlog what)
frame_in kinds.Error bytes = do
  channel ← channel_in bytes
  code ← ranged w8 25 1 error_max bytes
  Some (ErrorResponse channel code)
frame_in kinds.Request bytes = do
  channel ← channel_in bytes
  credit ← ranged w32 25 0 credit_max bytes
  Some (PartitionRequest channel credit)
frame_in kinds.Closing bytes = Some Close
frame_in kinds.Credit bytes = do
  channel ← channel_in bytes
  credit ← ranged w32 25 1 credit_max bytes
  Some (AddCredit channel credit)
frame_in kinds.Resumption bytes = do
  channel ← channel_in bytes
  Some (ResumeConsumption channel)
frame_in kinds.Backlog bytes = do
  channel ← channel_in bytes
  backlog ← ranged w32 25 1 credit_max bytes
  Some (BacklogAnnouncement channel backlog)
frame_in kinds.Size bytes = do
  channel ← channel_in bytes
  size ← ranged w32 25 segment_min segment_max bytes
  Some (NewBufferSize channel size)
