-- Items as buffer responses carry them. The responses are those of Flink's network stack.
use Rattle.std.specs.Prelude.{ℕ, ◌≤◌, List, [], ◌∷◌, length, flat_map, if◌then◌else◌}
use Rattle.flow_defs.specs.declared.task.ChannelId.{ChannelId}
use Rattle.flow_defs.specs.declared.task.BarrierKind.TheVariants.{Inline, Front}
use Rattle.credit_reader.specs.Senders.{is_same}
use Rattle.net_frames.specs.declared.frame.Frame.TheVariants.{BufferResponse, ErrorResponse, PartitionRequest, Close, AddCredit, ResumeConsumption, BacklogAnnouncement, NewBufferSize}
use Rattle.net_frames.specs.declared.frame.ArrivalKind2.{ArrivalKind2}
use Rattle.net_frames.specs.declared.frame.ArrivalKind2.TheVariants as arrivals
use Rattle.flow_defs.specs.Limits.{segment_max}
use Rattle.subpartition.specs.declared.item.Item.{Item}
use Rattle.subpartition.specs.declared.item.Item.TheVariants.{Buffer, Barrier, End}
use Rattle.subpartition.specs.Queues.{bytes_of}
use Rattle.conn_parts.specs.Messages.{Message}

-- What an item is on its way, and the content of its frame.
abbrev pub arrival_of : Item → ArrivalKind2
arrival_of (Buffer filled) = arrivals.Buffer
arrival_of (Barrier k Inline) = arrivals.Inline k
arrival_of (Barrier k Front) = arrivals.Front k
arrival_of End = arrivals.End

abbrev pub content_of : Item → List ℕ
content_of (Buffer filled) = bytes_of filled
content_of (Barrier k kind) = []
content_of End = []

-- A barrier counts from 1.
abbrev pub IsNumbered : Item → Type 0
IsNumbered (Buffer filled) = Unit {0}
IsNumbered (Barrier k kind) = 1 ≤ k
IsNumbered End = Unit {0}

-- Data fit into a frame, and there are some.
abbrev pub HasContent : Item → Type 0
HasContent (Buffer filled) = (1 ≤ length (bytes_of filled)) × (length (bytes_of filled) ≤ segment_max)
HasContent (Barrier k kind) = Unit {0}
HasContent End = Unit {0}

-- The response with an item, and the announcement of a backlog.
abbrev pub response : ChannelId → ℕ → ℕ → Item → Message
response channel sequence backlog item = (BufferResponse channel sequence backlog (arrival_of item), content_of item)

abbrev pub announcement : ChannelId → ℕ → Message
announcement channel backlog = (BacklogAnnouncement channel backlog, [])

-- The backlogs that come on a channel with items, in order.
abbrev pub backlog_with : ChannelId → Message → List ℕ
backlog_with c (BufferResponse channel sequence backlog what, content) = if is_same channel c then backlog ∷ [] else []
backlog_with c (ErrorResponse channel code, content) = []
backlog_with c (PartitionRequest channel credit, content) = []
backlog_with c (Close, content) = []
backlog_with c (AddCredit channel credit, content) = []
backlog_with c (ResumeConsumption channel, content) = []
backlog_with c (BacklogAnnouncement channel backlog, content) = []
backlog_with c (NewBufferSize channel size, content) = []

abbrev pub backlogs_on : ChannelId → List Message → List ℕ
backlogs_on c ms = flat_map (backlog_with c) ms

-- The backlogs that are announced on a channel, in order.
abbrev pub announced_in : ChannelId → Message → List ℕ
announced_in c (BufferResponse channel sequence backlog what, content) = []
announced_in c (ErrorResponse channel code, content) = []
announced_in c (PartitionRequest channel credit, content) = []
announced_in c (Close, content) = []
announced_in c (AddCredit channel credit, content) = []
announced_in c (ResumeConsumption channel, content) = []
announced_in c (BacklogAnnouncement channel backlog, content) = if is_same channel c then backlog ∷ [] else []
announced_in c (NewBufferSize channel size, content) = []

abbrev pub announcements_on : ChannelId → List Message → List ℕ
announcements_on c ms = flat_map (announced_in c) ms
