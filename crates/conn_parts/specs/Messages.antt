-- The messages of a connection: frames with their contents, in order, and what they carry channel by channel. Buffer responses with
-- sequence numbers and backlog, credit and resumptions are those of Flink's network stack.
use Rattle.std.specs.Prelude.{◌≡◌, ℕ, zero, suc, ◌%◌, ◌^◌, Bool, true, false, List, [], ◌∷◌, flat_map, map, sum_by, if◌then◌else◌}
use Rattle.flow_defs.specs.declared.task.ChannelId.{ChannelId}
use Rattle.flow_defs.specs.declared.task.BarrierKind.TheVariants as barrier
use Rattle.flow_defs.specs.declared.parcel.Parcel.{Parcel}
use Rattle.flow_defs.specs.declared.parcel.Parcel.TheVariants as parcels
use Rattle.credit_reader.specs.Senders.{is_same}
use Rattle.net_frames.specs.declared.frame.Frame.{Frame}
use Rattle.net_frames.specs.declared.frame.Frame.TheVariants.{BufferResponse, ErrorResponse, PartitionRequest, Close, AddCredit, ResumeConsumption, BacklogAnnouncement, NewBufferSize}
use Rattle.net_frames.specs.declared.frame.ArrivalKind2.{ArrivalKind2}
use Rattle.net_frames.specs.declared.frame.ArrivalKind2.TheVariants as arrivals
use Rattle.net_frames.specs.Frames.{spelling}

-- A frame with its content.
abbrev pub Message : Type 0
Message = Frame × List ℕ

-- The spelling of the closing frame.
abbrev pub closing : List ℕ
closing = spelling Close []

-- Which frames the sending end writes, beside the closing one, and which the receiving end.
abbrev pub is_from_sender : Frame → Bool
is_from_sender (BufferResponse channel sequence backlog what) = true
is_from_sender (ErrorResponse channel code) = false
is_from_sender (PartitionRequest channel credit) = false
is_from_sender Close = false
is_from_sender (AddCredit channel credit) = false
is_from_sender (ResumeConsumption channel) = false
is_from_sender (BacklogAnnouncement channel backlog) = true
is_from_sender (NewBufferSize channel size) = false

abbrev pub is_from_receiver : Frame → Bool
is_from_receiver (BufferResponse channel sequence backlog what) = false
is_from_receiver (ErrorResponse channel code) = false
is_from_receiver (PartitionRequest channel credit) = true
is_from_receiver Close = false
is_from_receiver (AddCredit channel credit) = true
is_from_receiver (ResumeConsumption channel) = true
is_from_receiver (BacklogAnnouncement channel backlog) = false
is_from_receiver (NewBufferSize channel size) = true

-- All of them have this direction.
abbrev pub AreFrom : (Frame → Bool) → List Message → Type 0
AreFrom is_from [] = Unit {0}
AreFrom is_from (m ∷ ms) = (is_from m.0 ≡ true) × AreFrom is_from ms

-- ---- what the sending end says of a channel

-- What a buffer response carries.
abbrev pub parcel_with : ArrivalKind2 → List ℕ → Parcel
parcel_with arrivals.Buffer content = parcels.Data content
parcel_with (arrivals.Inline k) content = parcels.Barrier k barrier.Inline
parcel_with (arrivals.Front k) content = parcels.Barrier k barrier.Front
parcel_with arrivals.End content = parcels.End

-- The items that a message brings to a channel, with their sequence numbers: one or none.
abbrev pub numbered_in : ChannelId → Message → List (ℕ × Parcel)
numbered_in c (BufferResponse channel sequence backlog what, content) = if is_same channel c then (sequence, parcel_with what content) ∷ [] else []
numbered_in c (ErrorResponse channel code, content) = []
numbered_in c (PartitionRequest channel credit, content) = []
numbered_in c (Close, content) = []
numbered_in c (AddCredit channel credit, content) = []
numbered_in c (ResumeConsumption channel, content) = []
numbered_in c (BacklogAnnouncement channel backlog, content) = []
numbered_in c (NewBufferSize channel size, content) = []

-- The items that messages bring to a channel, in order, and their sequence numbers.
abbrev pub numbered_on : ChannelId → List Message → List (ℕ × Parcel)
numbered_on c ms = flat_map (numbered_in c) ms

abbrev pub items_on : ChannelId → List Message → List Parcel
items_on c ms = map (λ x. x.1) (numbered_on c ms)

abbrev pub sequences_on : ChannelId → List Message → List ℕ
sequences_on c ms = map (λ x. x.0) (numbered_on c ms)

-- So many sequence numbers from one on, modulo 2^32.
abbrev pub counted : ℕ → ℕ → List ℕ
counted first zero = []
counted first (suc n) = first % 2 ^ 32 ∷ counted (suc first) n

-- ---- what the receiving end says of a channel

-- The credit that a message adds on a channel, beside that of the request.
abbrev pub credit_in : ChannelId → Message → ℕ
credit_in c (BufferResponse channel sequence backlog what, content) = 0
credit_in c (ErrorResponse channel code, content) = 0
credit_in c (PartitionRequest channel credit, content) = 0
credit_in c (Close, content) = 0
credit_in c (AddCredit channel credit, content) = if is_same channel c then credit else 0
credit_in c (ResumeConsumption channel, content) = 0
credit_in c (BacklogAnnouncement channel backlog, content) = 0
credit_in c (NewBufferSize channel size, content) = 0

abbrev pub credit_on : ChannelId → List Message → ℕ
credit_on c ms = sum_by (credit_in c) ms

-- The resumptions of a channel.
abbrev pub resumption_in : ChannelId → Message → ℕ
resumption_in c (BufferResponse channel sequence backlog what, content) = 0
resumption_in c (ErrorResponse channel code, content) = 0
resumption_in c (PartitionRequest channel credit, content) = 0
resumption_in c (Close, content) = 0
resumption_in c (AddCredit channel credit, content) = 0
resumption_in c (ResumeConsumption channel, content) = if is_same channel c then 1 else 0
resumption_in c (BacklogAnnouncement channel backlog, content) = 0
resumption_in c (NewBufferSize channel size, content) = 0

abbrev pub resumptions_on : ChannelId → List Message → ℕ
resumptions_on c ms = sum_by (resumption_in c) ms

-- The desired sizes of the buffers of a channel, in order.
abbrev pub sizes_in : ChannelId → Message → List ℕ
sizes_in c (BufferResponse channel sequence backlog what, content) = []
sizes_in c (ErrorResponse channel code, content) = []
sizes_in c (PartitionRequest channel credit, content) = []
sizes_in c (Close, content) = []
sizes_in c (AddCredit channel credit, content) = []
sizes_in c (ResumeConsumption channel, content) = []
sizes_in c (BacklogAnnouncement channel backlog, content) = []
sizes_in c (NewBufferSize channel size, content) = if is_same channel c then size ∷ [] else []

abbrev pub sizes_on : ChannelId → List Message → List ℕ
sizes_on c ms = flat_map (sizes_in c) ms

-- The partition requests that open a connection: one for each channel, with the credit of its two exclusive buffers.
abbrev pub requests_of : List ChannelId → List Message
requests_of channels = map (λ c. (PartitionRequest c 2, [])) channels

-- Whether a frame is a partition request.
abbrev pub is_request : Frame → Bool
is_request (BufferResponse channel sequence backlog what) = false
is_request (ErrorResponse channel code) = false
is_request (PartitionRequest channel credit) = true
is_request Close = false
is_request (AddCredit channel credit) = false
is_request (ResumeConsumption channel) = false
is_request (BacklogAnnouncement channel backlog) = false
is_request (NewBufferSize channel size) = false
