-- What the loop that reads items did. What it reads is that of Flink's credit-based flow control; the loop is this project's own choice.
use Rattle.std.specs.Prelude.{◌≡◌, ◌≢◌, ℕ, ◌<◌, ◌≤◌, true, false, Bool, List, [], ◌∷◌, ◌++◌, length, count_by, filter, flat_map, slice_get, if◌then◌else◌, All, Option, Some, IfSome}
use Rattle.turn_cell.specs.declared.cell.TurnCell.{TurnCell}
use Rattle.turn_cell.specs.History.{StartsWith}
use Rattle.turn_cell.specs.Passes.{IsPassOf, seen, opened_with}
use Rattle.flow_defs.specs.declared.task.ChannelId.{ChannelId}
use Rattle.flow_defs.specs.declared.task.BarrierKind.TheVariants as barrier
use Rattle.flow_defs.specs.declared.cause.Cause.{Cause}
use Rattle.flow_defs.specs.declared.cause.Cause.TheVariants as causes
use Rattle.flow_defs.specs.declared.cause.PeerFault.{PeerFault}
use Rattle.flow_defs.specs.declared.cause.PeerFault.TheVariants as peers
use Rattle.credit_reader.specs.Senders.{AreDistinct, is_same}
use Rattle.net_frames.specs.declared.frame.Frame.{Frame}
use Rattle.net_frames.specs.declared.frame.Frame.TheVariants as frames
use Rattle.net_frames.specs.declared.frame.ArrivalKind2.{ArrivalKind2}
use Rattle.net_frames.specs.declared.frame.ArrivalKind2.TheVariants as arrivals
use Rattle.input_channel.specs.declared.arrival.Arrival.{Arrival}
use Rattle.input_channel.specs.declared.arrival.ArrivalKind.{ArrivalKind}
use Rattle.input_channel.specs.declared.arrival.ArrivalKind.TheVariants as kinds
use Rattle.input_channel.specs.declared.entry.ReceiveEntry.{ReceiveEntry}
use Rattle.input_channel.specs.declared.entry.ReceiveEntry.TheVariants.{Push, Backlog, Shut}
use Rattle.input_channel.specs.declared.fault.AcceptFault.{AcceptFault}
use Rattle.input_channel.specs.declared.fault.AcceptFault.TheVariants as faults
use Rattle.input_channel.specs.Inboxes.{pushed}
use Rattle.input_channel.specs.States.{ChannelState, ChannelStandsFor}
use Rattle.input_channel.specs.Answers.{refused}
use Rattle.outside.specs.Faults.{HasRisen}
use Rattle.outside.specs.Stops.{first_met}
use Rattle.conn_parts.specs.declared.share.ConnShare.{ConnShare}
use Rattle.conn_parts.specs.declared.share.SharePasses.{SharePasses}
use Rattle.conn_parts.specs.Shares.{AreOf, AreOwn, mine_at, seen_at, HavePoolSize}
use Rattle.conn_parts.specs.Messages.{Message, closing, is_from_sender, parcel_with, items_on}
use Rattle.conn_parts.specs.Reading.{Read, BeginsBadly, BeginsWith}

-- What the loop is lent: passes of the cells that it enters, with the number of a reader of items.
pub record MayReadItems (share : ConnShare) : Type 0 where
  pub distinct : AreDistinct share.channels.now
  pub places : length share.inputs.now ≡ length share.channels.now
  pub inputs : AreOwn 1 share.inputs.now share.passes.inputs.items
  pub input_sizes : All (λ (cell : TurnCell ChannelState ReceiveEntry ℕ). (opened_with cell).size ≡ share.size) share.inputs.now
  pub pools : AreOf share.pools.now share.passes.pools.items
  pub sizes : HavePoolSize share.size share.pools.now
  pub receivers : All (λ c. c.to < length share.pools.now) share.channels.now
  pub stop : IsPassOf share.stop.now share.passes.stop

-- The passes come back as such.
pub record ItemsHandBack (share : ConnShare) (passes : SharePasses) : Type 0 where
  pub readers : passes.readers ≡ share.passes.readers
  pub subpartitions : passes.subpartitions ≡ share.passes.subpartitions
  pub inputs : AreOwn 1 share.inputs.now passes.inputs.items
  pub pools : AreOf share.pools.now passes.pools.items

-- Whether a channel was shut.
abbrev pub is_shut : ReceiveEntry → Bool
is_shut Shut = true
is_shut e = false

abbrev pub shuts : List ReceiveEntry → ℕ
shuts es = count_by is_shut es

abbrev pub is_over_credit : Cause → Bool
is_over_credit (causes.OverCredit channel received announced) = true
is_over_credit cause = false

-- What a channel notes of the messages on it: items, each with its backlog, and backlogs that were announced.
abbrev pub is_note : ReceiveEntry → Bool
is_note (Push p backlog) = true
is_note (Backlog n) = true
is_note e = false

abbrev pub noted : List ReceiveEntry → List ReceiveEntry
noted es = filter is_note es

-- What is to be noted of a message: the number in the frame, beside the item that it brings or alone.
abbrev pub note_of : ChannelId → Message → List ReceiveEntry
note_of c (frames.BufferResponse channel sequence backlog what, content) = if is_same channel c then Push (parcel_with what content) backlog ∷ [] else []
note_of c (frames.BacklogAnnouncement channel backlog, content) = if is_same channel c then Backlog backlog ∷ [] else []
note_of c (frames.ErrorResponse channel code, content) = []
note_of c (frames.PartitionRequest channel credit, content) = []
note_of c (frames.Close, content) = []
note_of c (frames.AddCredit channel credit, content) = []
note_of c (frames.ResumeConsumption channel, content) = []
note_of c (frames.NewBufferSize channel size, content) = []

abbrev pub notes_on : ChannelId → List Message → List ReceiveEntry
notes_on c ms = flat_map (note_of c) ms

-- Each channel was given the items of the messages that were read, in order, each with the backlog of its frame, and the backlogs that
-- were announced. None was shut but for data over the credit.
pub record PushedItems (channels : List ChannelId) (before after : SharePasses) (messages : List Message) (cause : Cause) : Type 0 where
  pub pushes : (k : ℕ) (c : ChannelId) → slice_get channels k ≡ Some c →
      pushed (mine_at k after.inputs.items) ≡ pushed (mine_at k before.inputs.items) ++ items_on c messages
  pub notes : (k : ℕ) (c : ChannelId) → slice_get channels k ≡ Some c → noted (mine_at k after.inputs.items) ≡ noted (mine_at k before.inputs.items) ++ notes_on c messages
  pub open_still : is_over_credit cause ≡ false → (k : ℕ) → shuts (mine_at k after.inputs.items) ≡ shuts (mine_at k before.inputs.items)

-- What this end reads.
abbrev pub reads_items : Frame → Bool
reads_items frames.Close = true
reads_items (frames.ErrorResponse channel code) = true
reads_items frame = is_from_sender frame

-- What arrives by a buffer response.
abbrev pub kind_with : ArrivalKind2 → ArrivalKind
kind_with arrivals.Buffer = kinds.Buffer
kind_with (arrivals.Inline k) = kinds.Barrier k barrier.Inline
kind_with (arrivals.Front k) = kinds.Barrier k barrier.Front
kind_with arrivals.End = kinds.End

abbrev pub arrival_with : ℕ → ℕ → ArrivalKind2 → Arrival
arrival_with sequence backlog what = record { sequence = sequence; backlog = backlog; what = kind_with what }

-- There is such a channel.
abbrev pub IsChannel : List ChannelId → ChannelId → Type 0
IsChannel channels channel = (k : ℕ) × (slice_get channels k ≡ Some channel)

-- A message of the sender's end is on a channel that there is.
abbrev pub IsKnown : List ChannelId → Message → Type 0
IsKnown channels (frames.BufferResponse channel sequence backlog what, content) = IsChannel channels channel
IsKnown channels (frames.BacklogAnnouncement channel backlog, content) = IsChannel channels channel
IsKnown channels (frames.ErrorResponse channel code, content) = Unit {0}
IsKnown channels (frames.PartitionRequest channel credit, content) = Unit {0}
IsKnown channels (frames.Close, content) = Unit {0}
IsKnown channels (frames.AddCredit channel credit, content) = Unit {0}
IsKnown channels (frames.ResumeConsumption channel, content) = Unit {0}
IsKnown channels (frames.NewBufferSize channel size, content) = Unit {0}

-- The first message of the bytes that are left is on a channel that there isn't.
abbrev pub NamesWrong : List ChannelId → Message → Type 0
NamesWrong channels (frames.BufferResponse channel sequence backlog what, content) = (k : ℕ) → slice_get channels k ≢ Some channel
NamesWrong channels (frames.BacklogAnnouncement channel backlog, content) = (k : ℕ) → slice_get channels k ≢ Some channel
NamesWrong channels (frames.ErrorResponse channel code, content) = ⊥
NamesWrong channels (frames.PartitionRequest channel credit, content) = ⊥
NamesWrong channels (frames.Close, content) = ⊥
NamesWrong channels (frames.AddCredit channel credit, content) = ⊥
NamesWrong channels (frames.ResumeConsumption channel, content) = ⊥
NamesWrong channels (frames.NewBufferSize channel size, content) = ⊥

-- The channel of the first message of the bytes that are left refused it with this fault, at the loop's turn with this history.
pub record WasRefused (channels : List ChannelId) (left : List ℕ) (k : ℕ) (history : List (ℕ × ReceiveEntry)) (fault : AcceptFault) : Type 0 where
  pub channel : ChannelId
  pub sequence : ℕ
  pub backlog : ℕ
  pub what : ArrivalKind2
  pub content : List ℕ
  pub place : slice_get channels k ≡ Some channel
  pub begins : BeginsWith (frames.BufferResponse channel sequence backlog what, content) left
  pub state : ChannelState
  pub stands : ChannelStandsFor state history
  pub refused : refused state (arrival_with sequence backlog what) content ≡ Some fault

module _ (share : ConnShare) (after : SharePasses) (was_ended ended : Option Bool) (left : List ℕ) where
  -- A channel refused the message with a fault, and nothing was done there since.
  abbrev pub MetFault : AcceptFault → Type 0
  MetFault fault = (k : ℕ) × WasRefused share.channels.now left k (seen_at k after.inputs.items) fault

  -- What is known where it met a fault of the other end.
  abbrev pub MetPeer : PeerFault → Type 0
  MetPeer peers.BadFrame = BeginsBadly reads_items left
  MetPeer peers.Refused = (channel : ChannelId) × (code : ℕ) × BeginsWith (frames.ErrorResponse channel code, []) left
  MetPeer peers.Channel = (m : Message) × BeginsWith m left × NamesWrong share.channels.now m
  MetPeer peers.Sequence = (want got : ℕ) × MetFault (faults.WrongSequence want got)
  MetPeer peers.AfterEnd = MetFault faults.AfterEnd
  MetPeer peers.Size = (got size : ℕ) × MetFault (faults.OverSize got size)
  MetPeer peers.Barrier = (want got : ℕ) × MetFault (faults.WrongBarrier want got)
  MetPeer peers.Cut = IfSome was_ended (λ _. ended ≡ Some true) × (first_met (seen after.stop) ≡ Some (causes.Peer peers.Cut))
  MetPeer other = ⊥

  -- Data came over the credit, and the channel was shut in that turn.
  pub record WasShut (channel : ChannelId) (received announced : ℕ) : Type 0 where
    pub place : ℕ
    pub is : slice_get share.channels.now place ≡ Some channel
    pub history : List (ℕ × ReceiveEntry)
    pub shut : seen_at place after.inputs.items ≡ history ++ (1, Shut) ∷ []
    pub refused : WasRefused share.channels.now left place history (faults.OverCredit received announced)

  -- And where it ended by a cause.
  abbrev pub EndedBy : ℕ → ℕ → Cause → Type 0
  EndedBy fell rose causes.Done = StartsWith left closing
  EndedBy fell rose causes.Stopped = Unit {0}
  EndedBy fell rose (causes.Input source) = ⊥
  EndedBy fell rose causes.Keeper = ⊥
  EndedBy fell rose causes.Link = HasRisen fell rose
  EndedBy fell rose (causes.LongLine source) = ⊥
  EndedBy fell rose (causes.BigSource source) = ⊥
  EndedBy fell rose causes.BigImage = ⊥
  EndedBy fell rose (causes.OverCredit channel received announced) = WasShut channel received announced
  EndedBy fell rose (causes.Peer fault) = MetPeer fault
  EndedBy fell rose causes.Memory = Unit {0}

-- What the loop read, and what it gave to the channels. Each message that was read is on a channel that there is.
pub record ItemsAccount (share : ConnShare) (after : SharePasses) (old new : Option (List ℕ)) (was_ended ended : Option Bool) (fell rose : ℕ) (cause : Cause) : Type 0 where
  pub messages : List Message
  pub left : List ℕ
  pub read : Read is_from_sender old new messages left
  pub known : All (IsKnown share.channels.now) messages
  pub pushed : PushedItems share.channels.now share.passes after messages cause
  pub cause_is : EndedBy share after was_ended ended left fell rose cause
  pub never_falls : fell ≤ rose
