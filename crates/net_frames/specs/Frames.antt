-- Frames and their one spelling. The kinds and what they mean are those of Flink's network stack, with
-- its credit, backlog and barriers: buffer response, error response, partition request, close, add
-- credit, resume consumption, backlog announcement and new buffer size. How they are laid out is this
-- project's own: the order and width of the numbers, their ranges, the magic number and the ids.
use Rattle.std.specs.Prelude.{◌≡◌, ℕ, ◌+◌, ◌≤◌, ◌<◌, ◌^◌, ◌*◌, List, [], ◌∷◌, ◌++◌, length, sum_by, flat_map}
use Rattle.std.specs.List.{AllByRecursion}
use Rattle.std.specs.Int.{Width, w8, w32, w64, byte_len, to_be_bytes}
use Rattle.flow_defs.specs.declared.task.ChannelId.{ChannelId}
use Rattle.flow_defs.specs.Limits.{segment_max, credit_max, segment_min}
use Rattle.net_frames.specs.Limits.{error_max, magic}
use Rattle.net_frames.specs.declared.frame.Frame.{Frame}
use Rattle.net_frames.specs.declared.frame.Frame.TheVariants.{BufferResponse, ErrorResponse, PartitionRequest, Close, AddCredit, ResumeConsumption, BacklogAnnouncement, NewBufferSize}
use Rattle.net_frames.specs.declared.frame.ArrivalKind2.{ArrivalKind2}
use Rattle.net_frames.specs.declared.frame.ArrivalKind2.TheVariants.{Buffer, Inline, Front, End}
use Rattle.net_frames.specs.declared.kind.Kind.{Kind}
use Rattle.net_frames.specs.declared.kind.Kind.TheVariants as kinds
use Rattle.net_frames.specs.Kinds.{id_of}

-- The kind of a frame.
abbrev pub frame_kind : Frame → Kind
frame_kind (BufferResponse channel sequence backlog what) = kinds.Buffer
frame_kind (ErrorResponse channel code) = kinds.Error
frame_kind (PartitionRequest channel credit) = kinds.Request
frame_kind Close = kinds.Closing
frame_kind (AddCredit channel credit) = kinds.Credit
frame_kind (ResumeConsumption channel) = kinds.Resumption
frame_kind (BacklogAnnouncement channel backlog) = kinds.Backlog
frame_kind (NewBufferSize channel size) = kinds.Size

-- ---- ranges

-- From the least to the most.
abbrev pub IsWithin : ℕ → ℕ → ℕ → Type 0
IsWithin least most n = (least ≤ n) × (n ≤ most)

-- What an arrival and its content may be. Only a buffer has content, and it has some.
abbrev pub IsArrival : ArrivalKind2 → List ℕ → Type 0
IsArrival Buffer content = IsWithin 1 segment_max (length content)
IsArrival (Inline k) content = (1 ≤ k) × (content ≡ [])
IsArrival (Front k) content = (1 ≤ k) × (content ≡ [])
IsArrival End content = content ≡ []

-- The ranges of a frame with its content. A number that isn't named here may be any of its width.
abbrev pub KeepsRanges : Frame → List ℕ → Type 0
KeepsRanges (BufferResponse channel sequence backlog what) content = (backlog ≤ credit_max) × IsArrival what content
KeepsRanges (ErrorResponse channel code) content = IsWithin 1 error_max code × (content ≡ [])
KeepsRanges (PartitionRequest channel credit) content = (credit ≤ credit_max) × (content ≡ [])
KeepsRanges Close content = content ≡ []
KeepsRanges (AddCredit channel credit) content = IsWithin 1 credit_max credit × (content ≡ [])
KeepsRanges (ResumeConsumption channel) content = content ≡ []
KeepsRanges (BacklogAnnouncement channel backlog) content = IsWithin 1 credit_max backlog × (content ≡ [])
KeepsRanges (NewBufferSize channel size) content = IsWithin segment_min segment_max size × (content ≡ [])

-- ---- numbers

-- A number of one, four or eight bytes.
pub data Number : Type 0 where
  u8 : ℕ → Number
  u32 : ℕ → Number
  u64 : ℕ → Number

-- Its width, and its value.
abbrev pub width_of : Number → Width
width_of (u8 n) = w8
width_of (u32 n) = w32
width_of (u64 n) = w64

abbrev pub value_of : Number → ℕ
value_of (u8 n) = n
value_of (u32 n) = n
value_of (u64 n) = n

-- A channel: its edge, the sending task, the receiving task, and 0.
abbrev pub channel_numbers : ChannelId → List Number
channel_numbers channel = u32 channel.edge ∷ u32 channel.from ∷ u32 channel.to ∷ u32 0 ∷ []

-- An arrival: its kind, 0 for no compression, and the length of the content. The number of a barrier
-- follows as the content of its frame.
abbrev pub arrival_numbers : ArrivalKind2 → List ℕ → List Number
arrival_numbers Buffer content = u8 0 ∷ u8 0 ∷ u32 (length content) ∷ []
arrival_numbers (Inline k) content = u8 1 ∷ u8 0 ∷ u32 8 ∷ u64 k ∷ []
arrival_numbers (Front k) content = u8 2 ∷ u8 0 ∷ u32 8 ∷ u64 k ∷ []
arrival_numbers End content = u8 3 ∷ u8 0 ∷ u32 0 ∷ []

-- The numbers of a frame's body, in order.
abbrev pub body_numbers : Frame → List ℕ → List Number
body_numbers (BufferResponse channel sequence backlog what) content = channel_numbers channel ++ u32 sequence ∷ u32 backlog ∷ arrival_numbers what content
body_numbers (ErrorResponse channel code) content = channel_numbers channel ++ u8 code ∷ []
body_numbers (PartitionRequest channel credit) content = channel_numbers channel ++ u32 credit ∷ []
body_numbers Close content = []
body_numbers (AddCredit channel credit) content = channel_numbers channel ++ u32 credit ∷ []
body_numbers (ResumeConsumption channel) content = channel_numbers channel
body_numbers (BacklogAnnouncement channel backlog) content = channel_numbers channel ++ u32 backlog ∷ []
body_numbers (NewBufferSize channel size) content = channel_numbers channel ++ u32 size ∷ []

-- How many bytes numbers take.
abbrev pub numbers_len : List Number → ℕ
numbers_len numbers = sum_by (λ n. byte_len (width_of n)) numbers

-- The length of a frame without its content: the length, the magic number and the id, and the body.
abbrev pub head_len : Frame → ℕ
head_len frame = 9 + numbers_len (body_numbers frame [])

-- The length of a frame with its content.
abbrev pub frame_len : Frame → List ℕ → ℕ
frame_len frame content = head_len frame + length content

-- All numbers of a frame: its length, the magic number, its id, and those of its body.
abbrev pub numbers : Frame → List ℕ → List Number
numbers frame content = u32 (frame_len frame content) ∷ u32 magic ∷ u8 (id_of (frame_kind frame)) ∷ body_numbers frame content

-- ---- the spelling

-- Numbers as bytes, each with its highest byte first.
abbrev pub spelled : List Number → List ℕ
spelled numbers = flat_map (λ n. to_be_bytes (width_of n) (value_of n)) numbers

-- The spelling of a frame with its content.
abbrev pub spelling : Frame → List ℕ → List ℕ
spelling frame content = spelled (numbers frame content) ++ content

-- Each number fits its width.
abbrev pub Fit : List Number → Type 0
Fit numbers = AllByRecursion (λ n. value_of n < 2 ^ (8 * byte_len (width_of n))) numbers

-- A frame with its content, as it may stand on a connection.
pub record IsFrame (frame : Frame) (content : List ℕ) : Type 0 where
  pub in_range : KeepsRanges frame content
  pub fits : Fit (body_numbers frame content)

-- The bytes begin with this frame and content, and the rest follows.
pub record Begins (bytes : List ℕ) (frame : Frame) (content rest : List ℕ) : Type 0 where
  pub is_frame : IsFrame frame content
  pub bytes_are : bytes ≡ spelling frame content ++ rest

-- The spellings of frames with their contents, end to end.
abbrev pub all_spelled : List (Frame × List ℕ) → List ℕ
all_spelled frames = flat_map (λ f. spelling f.0 f.1) frames

-- Each of them is a frame with its content.
abbrev pub AreFrames : List (Frame × List ℕ) → Type 0
AreFrames frames = AllByRecursion (λ f. IsFrame f.0 f.1) frames
