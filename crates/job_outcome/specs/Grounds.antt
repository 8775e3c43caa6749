-- What stands behind a fault of the other end of a connection. Credit and frames are those of Flink's network stack; which fault is told
-- when is this project's own choice.
use Rattle.std.specs.Prelude.{◌≡◌, ◌⊎◌, ⊤, ℕ, ◌+◌, ◌≤◌, ◌%◌, ◌^◌, Bool, true, List, [], ◌++◌, slice_get, Option, Some}
use Rattle.flow_defs.specs.Items.{Items}
use Rattle.flow_defs.specs.declared.task.ChannelId.{ChannelId}
use Rattle.flow_defs.specs.declared.cause.PeerFault.{PeerFault}
use Rattle.flow_defs.specs.declared.cause.PeerFault.TheVariants as peers
use Rattle.flow_defs.specs.declared.job.Job.{Job}
use Rattle.net_frames.specs.declared.frame.Frame.{Frame}
use Rattle.net_frames.specs.declared.frame.Frame.TheVariants as frames
use Rattle.net_frames.specs.declared.frame.ArrivalKind2.{ArrivalKind2}
use Rattle.net_frames.specs.Frames.{AreFrames, all_spelled}
use Rattle.conn_parts.specs.Messages.{Message, AreFrom, is_from_sender, is_from_receiver}
use Rattle.conn_parts.specs.Reading.{BeginsBadly, BeginsWith}
use Rattle.conn_parts.specs.declared.share.LoopEnd.{LoopEnd}
use Rattle.conn_read_items.specs.Receiving.{reads_items, NamesWrong}
use Rattle.conn_read_control.specs.Controlling.{reads_control}
use Rattle.job_cells.specs.Edges.{channels_on}
use Rattle.job_workers.specs.declared.connection.LoopLeft.TheVariants.{ReadControl, ReadItems}
use Rattle.job_workers.specs.declared.place.Place.TheVariants.{Ended}
use Rattle.job_ends.specs.Ended.{LoopPlace, LinksTell}

-- One more came on a channel than was announced there. Both are counted from the opening on, where two are announced, and told
-- modulo 2^64.
pub record IsOverByOne (received announced : ℕ) : Type 0 where
  pub count : ℕ
  pub enough : 2 ≤ count
  pub announced_is : announced ≡ count % 2 ^ 64
  pub received_is : received ≡ (count + 1) % 2 ^ 64

-- ---- what the bytes that are left of a link begin with

-- An item on one of these channels.
abbrev pub BeginsWithItem : List ChannelId → List ℕ → Type 0
BeginsWithItem channels left = (k : ℕ) × (channel : ChannelId) × (sequence backlog : ℕ) × (what : ArrivalKind2) × (content : List ℕ) ×
    (slice_get channels k ≡ Some channel) × BeginsWith (frames.BufferResponse channel sequence backlog what, content) left

-- On a data link.
abbrev pub ItemsBegin : List ChannelId → PeerFault → List ℕ → Type 0
ItemsBegin channels peers.BadFrame left = BeginsBadly reads_items left
ItemsBegin channels peers.Refused left = (channel : ChannelId) × (code : ℕ) × BeginsWith (frames.ErrorResponse channel code, []) left
ItemsBegin channels peers.Channel left = (m : Message) × BeginsWith m left × NamesWrong channels m
ItemsBegin channels peers.Sequence left = BeginsWithItem channels left
ItemsBegin channels peers.AfterEnd left = BeginsWithItem channels left
ItemsBegin channels peers.Size left = BeginsWithItem channels left
ItemsBegin channels peers.Barrier left = BeginsWithItem channels left
ItemsBegin channels peers.Cut left = ⊤
ItemsBegin channels other left = ⊥

-- On a control link. What is overdue there was read before.
abbrev pub ControlBegins : PeerFault → List ℕ → Type 0
ControlBegins peers.BadFrame left = BeginsBadly reads_control left
ControlBegins peers.Channel left = (m : Message) × BeginsWith m left × (is_from_receiver m.0 ≡ true)
ControlBegins peers.Size left = (channel : ChannelId) × (size : ℕ) × (content : List ℕ) × BeginsWith (frames.NewBufferSize channel size, content) left
ControlBegins peers.Credit left = ⊤
ControlBegins peers.Resume left = ⊤
ControlBegins peers.Cut left = ⊤
ControlBegins other left = ⊥

-- The bytes that came over a link are messages of its direction and then what is left, which begins so. A link that is cut has ended. The
-- place at which the reading stopped is not told.
pub record HasMetFault {O I : Type 0} (sent : O → Option (List ℕ)) (got : I → Option (List ℕ)) (ended : I → Option Bool)
    (is_from : Frame → Bool) (begins : PeerFault → List ℕ → Type 0) (half : I) (fault : PeerFault) : Type 0 where
  pub messages : List Message
  pub left : List ℕ
  pub frames : AreFrames messages
  pub direction : AreFrom is_from messages
  pub bytes : LinksTell sent got → got half ≡ Some (all_spelled messages ++ left)
  pub met : begins fault left
  pub cut : ((one : I) → (b : Bool) × (ended one ≡ Some b)) → fault ≡ peers.Cut → ended half ≡ Some true

-- Faults that a task finds in the bytes of its channels, or the worker that collects in an image. Of `Left` and `Barrier` nothing is said of
-- when.
abbrev pub IsTaskFault : PeerFault → Type 0
IsTaskFault peers.Left = ⊤
IsTaskFault peers.Barrier = ⊤
IsTaskFault other = ⊥

module _ {O I : Type 0} (sent : O → Option (List ℕ)) (got : I → Option (List ℕ)) (ended : I → Option Bool) where
  -- One of the loops that read met this fault on its link, or a task found it.
  abbrev pub HasPeerFault : Job → List (Items (LoopPlace O I)) → PeerFault → Type 0
  HasPeerFault job loops fault =
      IsTaskFault fault
      ⊎ ((e i : ℕ) × (row : Items (LoopPlace O I)) × (end : LoopEnd I) × (slice_get loops e ≡ Some row) × (slice_get row.items i ≡ Some (Ended (ReadItems end)))
      × HasMetFault sent got ended is_from_sender (ItemsBegin (channels_on job e)) end.half fault)
      ⊎ ((e i : ℕ) × (row : Items (LoopPlace O I)) × (end : LoopEnd I) × (slice_get loops e ≡ Some row) × (slice_get row.items i ≡ Some (Ended (ReadControl end)))
      × HasMetFault sent got ended is_from_receiver ControlBegins end.half fault)
