-- What the parts of the loop that reads items do. It serves the loop's own functions; no public contract cites it.
use Rattle.std.specs.Prelude.{◌≡◌, ◌≢◌, ℕ, ◌<◌, ◌≤◌, ◌⊎◌, true, false, Bool, List, [], ◌∷◌, ◌++◌, length, drop, slice_get, if◌then◌else◌, All, Option, Some, IfSome}
use Rattle.turn_cell.specs.declared.cell.TurnCell.{TurnCell}
use Rattle.turn_cell.specs.History.{StartsWith}
use Rattle.turn_cell.specs.Passes.{IsPassOf, seen, opened_with}
use Rattle.flow_defs.specs.declared.task.ChannelId.{ChannelId}
use Rattle.flow_defs.specs.declared.cause.Cause.{Cause}
use Rattle.flow_defs.specs.declared.cause.Cause.TheVariants as causes
use Rattle.flow_defs.specs.declared.cause.PeerFault.{PeerFault}
use Rattle.flow_defs.specs.declared.cause.PeerFault.TheVariants as peers
use Rattle.credit_reader.specs.Senders.{AreDistinct, is_same}
use Rattle.net_frames.specs.Limits.{frame_max}
use Rattle.net_frames.specs.declared.frame.Frame.{Frame}
use Rattle.net_frames.specs.declared.frame.Frame.TheVariants as frames
use Rattle.net_frames.specs.Frames.{AreFrames, Begins, all_spelled}
use Rattle.input_channel.specs.declared.arrival.Arrival.{Arrival}
use Rattle.input_channel.specs.declared.entry.ReceiveEntry.{ReceiveEntry}
use Rattle.input_channel.specs.declared.entry.ReceiveEntry.TheVariants.{Shut}
use Rattle.input_channel.specs.declared.fault.AcceptFault.{AcceptFault}
use Rattle.input_channel.specs.declared.fault.AcceptFault.TheVariants as faults
use Rattle.input_channel.specs.States.{ChannelState}
use Rattle.outside.specs.Faults.{HasRisen}
use Rattle.outside.specs.Links.{Appended}
use Rattle.outside.specs.Stops.{first_met}
use Rattle.conn_parts.specs.declared.share.SharePasses.{SharePasses}
use Rattle.conn_parts.specs.Shares.{AreOf, AreOwn, mine_at, seen_at, HavePoolSize}
use Rattle.conn_parts.specs.Messages.{Message, closing, is_from_sender, AreFrom}
use Rattle.conn_parts.specs.Reading.{BeginsBadly, BeginsWith}
use Rattle.conn_parts.specs.Stopping.{ToldStop}
use Rattle.conn_read_items.specs.declared.cells.Cells.{Cells}
use Rattle.conn_read_items.specs.declared.message.Step.{Step}
use Rattle.conn_read_items.specs.declared.message.Step.TheVariants as steps
use Rattle.conn_read_items.specs.Receiving.{noted, notes_on, shuts, is_over_credit, reads_items, arrival_with, IsKnown, NamesWrong, WasRefused, PushedItems}
use Rattle.conn_read_items.specs.Turning.{InputPass, WasRefusedWith}
use Rattle.conn_parts.specs.Reading.{Read}

-- ---- what the loop is lent

-- The passes are those of the cells, with the number of a reader of items.
pub record AreLent (cells : Cells) (passes : SharePasses) : Type 0 where
  pub distinct : AreDistinct cells.channels.now
  pub places : length cells.inputs.now ≡ length cells.channels.now
  pub inputs : AreOwn 1 cells.inputs.now passes.inputs.items
  pub input_sizes : All (λ (cell : TurnCell ChannelState ReceiveEntry ℕ). (opened_with cell).size ≡ cells.size) cells.inputs.now
  pub pools : AreOf cells.pools.now passes.pools.items
  pub sizes : HavePoolSize cells.size cells.pools.now
  pub receivers : All (λ c. c.to < length cells.pools.now) cells.channels.now
  pub stop : IsPassOf cells.stop.now passes.stop

-- The passes of the cells that the loop doesn't enter stay.
pub record KeepsOthers (before after : SharePasses) : Type 0 where
  pub readers : after.readers ≡ before.readers
  pub subpartitions : after.subpartitions ≡ before.subpartitions

-- So does that of the stop cell.
pub record KeepsStop (before after : SharePasses) : Type 0 where
  pub others : KeepsOthers before after
  pub stop : after.stop ≡ before.stop

-- ---- what was given to channels

-- A pass noted these more, and shut nothing.
pub record NotedMore (before after notes : List ReceiveEntry) : Type 0 where
  pub noted : noted after ≡ noted before ++ notes
  pub shuts : shuts after ≡ shuts before

-- The pass at a place did, and the others made no entry.
pub record GaveAt (k : ℕ) (before after : List InputPass) (notes : List ReceiveEntry) : Type 0 where
  pub here : NotedMore (mine_at k before) (mine_at k after) notes
  pub others : (j : ℕ) → j ≢ k → mine_at j after ≡ mine_at j before

-- The channel at a place refused an arrival, and the other passes made no entry.
pub record RefusedAt (k : ℕ) (before after : List InputPass) (a : Arrival) (bytes : List ℕ) (fault : AcceptFault) : Type 0 where
  pub why : WasRefusedWith (mine_at k before) (mine_at k after) (seen_at k after) a bytes fault
  pub others : (j : ℕ) → j ≢ k → mine_at j after ≡ mine_at j before

-- Each channel noted these, and none was shut.
pub record Gave (channels : List ChannelId) (before after : List InputPass) (notes : ChannelId → List ReceiveEntry) : Type 0 where
  pub each : (k : ℕ) (c : ChannelId) → slice_get channels k ≡ Some c → noted (mine_at k after) ≡ noted (mine_at k before) ++ notes c
  pub open_still : (k : ℕ) → shuts (mine_at k after) ≡ shuts (mine_at k before)

-- No channel was given anything, and none was shut but for data over the credit.
pub record GaveNothing (before after : List InputPass) (cause : Cause) : Type 0 where
  pub none : (k : ℕ) → noted (mine_at k after) ≡ noted (mine_at k before)
  pub open_still : is_over_credit cause ≡ false → (k : ℕ) → shuts (mine_at k after) ≡ shuts (mine_at k before)

-- One note for a channel.
abbrev pub brought : ChannelId → ReceiveEntry → ChannelId → List ReceiveEntry
brought channel note c = if is_same channel c then note ∷ [] else []

-- ---- a frame

-- The cause of a refusal.
abbrev pub cause_of : ChannelId → AcceptFault → Cause
cause_of channel (faults.WrongSequence want got) = causes.Peer peers.Sequence
cause_of channel faults.AfterEnd = causes.Peer peers.AfterEnd
cause_of channel (faults.OverCredit received announced) = causes.OverCredit channel received announced
cause_of channel (faults.OverSize got size) = causes.Peer peers.Size
cause_of channel (faults.WrongBarrier want got) = causes.Peer peers.Barrier
cause_of channel faults.Memory = causes.Memory

-- There is no such channel.
pub record IsUnknown (channels : List ChannelId) (before after : List InputPass) (channel : ChannelId) (cause : Cause) : Type 0 where
  pub nowhere : (k : ℕ) → slice_get channels k ≢ Some channel
  pub cause_is : cause ≡ causes.Peer peers.Channel
  pub same : after ≡ before

-- The channel refused the arrival.
pub record RefusedBy (channels : List ChannelId) (before after : List InputPass) (channel : ChannelId) (a : Arrival) (bytes : List ℕ) (cause : Cause) : Type 0 where
  pub place : ℕ
  pub is : slice_get channels place ≡ Some channel
  pub fault : AcceptFault
  pub cause_is : cause ≡ cause_of channel fault
  pub at : RefusedAt place before after a bytes fault

module _ (channels : List ChannelId) (before after : List InputPass) where
  -- A frame was taken.
  pub record TookFrame (frame : Frame) (content : List ℕ) : Type 0 where
    pub direction : is_from_sender frame ≡ true
    pub known : IsKnown channels (frame, content)
    pub gave : Gave channels before after (λ c. notes_on c ((frame, content) ∷ []))

  -- A frame ended the loop.
  abbrev pub EndsWith : Frame → List ℕ → Cause → Type 0
  EndsWith (frames.BufferResponse channel sequence backlog what) content cause =
      IsUnknown channels before after channel cause ⊎ RefusedBy channels before after channel (arrival_with sequence backlog what) content cause
  EndsWith (frames.BacklogAnnouncement channel backlog) content cause = IsUnknown channels before after channel cause
  EndsWith (frames.ErrorResponse channel code) content cause = (cause ≡ causes.Peer peers.Refused) × (after ≡ before)
  EndsWith frames.Close content cause = (cause ≡ causes.Done) × (after ≡ before)
  EndsWith (frames.PartitionRequest channel credit) content cause = (cause ≡ causes.Peer peers.BadFrame) × (after ≡ before)
  EndsWith (frames.AddCredit channel credit) content cause = (cause ≡ causes.Peer peers.BadFrame) × (after ≡ before)
  EndsWith (frames.ResumeConsumption channel) content cause = (cause ≡ causes.Peer peers.BadFrame) × (after ≡ before)
  EndsWith (frames.NewBufferSize channel size) content cause = (cause ≡ causes.Peer peers.BadFrame) × (after ≡ before)

-- ---- the bytes that came

module _ (channels : List ChannelId) (after : List InputPass) (left : List ℕ) where
  -- A channel refused the message with a fault, and nothing was done there since.
  abbrev pub MetFaultAt : AcceptFault → Type 0
  MetFaultAt fault = (k : ℕ) × WasRefused channels left k (seen_at k after) fault

  -- What is known of the bytes where they begin with what ends the loop.
  abbrev pub EndsByPeer : PeerFault → Type 0
  EndsByPeer peers.BadFrame = BeginsBadly reads_items left
  EndsByPeer peers.Refused = (channel : ChannelId) × (code : ℕ) × BeginsWith (frames.ErrorResponse channel code, []) left
  EndsByPeer peers.Channel = (m : Message) × BeginsWith m left × NamesWrong channels m
  EndsByPeer peers.Sequence = (want got : ℕ) × MetFaultAt (faults.WrongSequence want got)
  EndsByPeer peers.AfterEnd = MetFaultAt faults.AfterEnd
  EndsByPeer peers.Size = (got size : ℕ) × MetFaultAt (faults.OverSize got size)
  EndsByPeer peers.Barrier = (want got : ℕ) × MetFaultAt (faults.WrongBarrier want got)
  EndsByPeer other = ⊥

  -- Data came over the credit, and the channel was shut in that turn.
  pub record WasShutAt (channel : ChannelId) (received announced : ℕ) : Type 0 where
    pub place : ℕ
    pub is : slice_get channels place ≡ Some channel
    pub history : List (ℕ × ReceiveEntry)
    pub shut : seen_at place after ≡ history ++ (1, Shut) ∷ []
    pub refused : WasRefused channels left place history (faults.OverCredit received announced)

  abbrev pub EndsBy : Cause → Type 0
  EndsBy causes.Done = StartsWith left closing
  EndsBy causes.Stopped = ⊥
  EndsBy (causes.Input source) = ⊥
  EndsBy causes.Keeper = ⊥
  EndsBy causes.Link = ⊥
  EndsBy (causes.LongLine source) = ⊥
  EndsBy (causes.BigSource source) = ⊥
  EndsBy causes.BigImage = ⊥
  EndsBy (causes.OverCredit channel received announced) = WasShutAt channel received announced
  EndsBy (causes.Peer fault) = EndsByPeer fault
  EndsBy causes.Memory = Unit {0}

-- A message of so many bytes stands first, and its channel was given what it brings.
pub record TookMessage (channels : List ChannelId) (before after : List InputPass) (bytes : List ℕ) (count : ℕ) : Type 0 where
  pub frame : Frame
  pub content : List ℕ
  pub begins : Begins bytes frame content (drop count bytes)
  pub within : count ≤ length bytes
  pub took : TookFrame channels before after frame content

-- Why the loop ends: by these bytes, by another's fault, by a failed read, or by the end of the bytes.
abbrev pub WhyEnded : List ChannelId → SharePasses → Option Bool → Option Bool → List ℕ → ℕ → ℕ → Cause → Type 0
WhyEnded channels after was_ended ended left fell rose cause =
    EndsBy channels after.inputs.items left cause
    ⊎ (cause ≡ causes.Stopped)
    ⊎ ((cause ≡ causes.Link) × HasRisen fell rose)
    ⊎ ((cause ≡ causes.Peer peers.Cut) × IfSome was_ended (λ _. ended ≡ Some true) × (first_met (seen after.stop) ≡ Some (causes.Peer peers.Cut)))

-- What one round made of the bytes that were there and those that came: messages, and then those that are left.
pub record WentOn (channels : List ChannelId) (before after : List InputPass) (old new : Option (List ℕ)) (pending left : List ℕ) : Type 0 where
  pub messages : List Message
  pub frames : AreFrames messages
  pub direction : AreFrom is_from_sender messages
  pub known : All (IsKnown channels) messages
  pub added : List ℕ
  pub told : Appended old new added
  pub spelled : pending ++ added ≡ all_spelled messages ++ left
  pub gave : Gave channels before after (λ c. notes_on c messages)

-- A round that ended the loop: nothing came, and the stop cell was told.
pub record EndedHere (cells : Cells) (before after : SharePasses) (old new : Option (List ℕ)) (was_ended ended : Option Bool) (left : List ℕ) (fell rose : ℕ) (cause : Cause) : Type 0 where
  pub came : Appended old new []
  pub gave : GaveNothing before.inputs.items after.inputs.items cause
  pub why : WhyEnded cells.channels.now after was_ended ended left fell rose cause
  pub told : ToldStop cells.stop.now cause before.stop after.stop

-- What all rounds did.
pub record ReadToEnd (cells : Cells) (before after : SharePasses) (old new : Option (List ℕ)) (was_ended ended : Option Bool) (fell rose : ℕ) (cause : Cause) : Type 0 where
  pub messages : List Message
  pub left : List ℕ
  pub read : Read is_from_sender old new messages left
  pub known : All (IsKnown cells.channels.now) messages
  pub pushed : PushedItems cells.channels.now before after messages cause
  pub why : WhyEnded cells.channels.now after was_ended ended left fell rose cause

-- What became of the bytes.
abbrev pub Stepped : List ChannelId → List InputPass → List InputPass → List ℕ → Step → Type 0
Stepped channels before after bytes (steps.Took count) = TookMessage channels before after bytes count
Stepped channels before after bytes steps.More = (length bytes < frame_max) × (after ≡ before)
Stepped channels before after bytes (steps.Ends cause) = GaveNothing before after cause × EndsBy channels after bytes cause
