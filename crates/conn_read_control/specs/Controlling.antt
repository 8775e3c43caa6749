-- What the loop that reads control frames did. Requests, credit and resumptions are those of Flink's credit-based flow control, the
-- desired size of buffers is that of FLIP-183; the loop is this project's own choice.
use Rattle.std.specs.Prelude.{◌≡◌, ◌≢◌, ℕ, ◌<◌, ◌≤◌, true, Bool, List, [], ◌∷◌, ◌++◌, length, map, flat_map, slice_get, All, Option, Some, IfSome}
use Rattle.std.specs.Option.{option_map_or}
use Rattle.turn_cell.specs.declared.cell.TurnCell.{TurnCell}
use Rattle.turn_cell.specs.History.{StartsWith}
use Rattle.subpartition.specs.Queues.{Queue}
use Rattle.turn_cell.specs.Passes.{IsPassOf, mine, seen, opened_with}
use Rattle.flow_defs.specs.declared.task.ChannelId.{ChannelId}
use Rattle.flow_defs.specs.declared.cause.Cause.{Cause}
use Rattle.flow_defs.specs.declared.cause.Cause.TheVariants as causes
use Rattle.flow_defs.specs.declared.cause.PeerFault.{PeerFault}
use Rattle.flow_defs.specs.declared.cause.PeerFault.TheVariants as peers
use Rattle.credit_reader.specs.Senders.{AreDistinct}
use Rattle.net_frames.specs.declared.frame.Frame.{Frame}
use Rattle.net_frames.specs.declared.frame.Frame.TheVariants as frames
use Rattle.subpartition.specs.declared.entry.SendEntry.{SendEntry}
use Rattle.subpartition.specs.declared.entry.SendEntry.TheVariants.{Size}
use Rattle.reader_state.specs.declared.entry.ReaderEntry.{ReaderEntry}
use Rattle.reader_state.specs.declared.entry.ReaderEntry.TheVariants.{Asked, Granted, Resumed}
use Rattle.reader_state.specs.Ledgers.{IsOverdueCredit, IsOverdueResumption, HasNoneOverdue}
use Rattle.reader_state.specs.Turning.{ReaderPass, channels_in, ledger_after, IsReaderPass, IsRefused}
use Rattle.outside.specs.Faults.{HasRisen}
use Rattle.outside.specs.Stops.{first_met}
use Rattle.conn_parts.specs.declared.share.ConnShare.{ConnShare}
use Rattle.conn_parts.specs.declared.share.SharePasses.{SharePasses}
use Rattle.conn_parts.specs.Shares.{AreOwn, mine_at}
use Rattle.conn_parts.specs.Messages.{Message, closing, is_from_receiver, sizes_on}
use Rattle.conn_parts.specs.Reading.{Read, BeginsBadly, BeginsWith}

-- What the loop is lent: passes of the cells that it enters, with the numbers of a reader of control frames, of which that of the
-- readers has made no entry.
pub record MayReadControl (share : ConnShare) : Type 0 where
  pub channels : channels_in share.readers.now ≡ share.channels.now
  pub distinct : AreDistinct share.channels.now
  pub places : length share.subpartitions.now ≡ length share.channels.now
  pub sizes : All (λ (cell : TurnCell Queue SendEntry ℕ). (opened_with cell).size ≡ share.size) share.subpartitions.now
  pub reader_pass : ReaderPass
  pub readers : share.passes.readers ≡ Some reader_pass
  pub reader_is : IsReaderPass share.readers.now 1 reader_pass
  pub new : mine reader_pass ≡ []
  pub subpartitions : AreOwn 2 share.subpartitions.now share.passes.subpartitions.items
  pub stop : IsPassOf share.stop.now share.passes.stop

-- The passes come back as such.
pub record ControlHandsBack (share : ConnShare) (passes : SharePasses) : Type 0 where
  pub reader_pass : ReaderPass
  pub readers : passes.readers ≡ Some reader_pass
  pub reader_is : IsReaderPass share.readers.now 1 reader_pass
  pub subpartitions : AreOwn 2 share.subpartitions.now passes.subpartitions.items
  pub inputs : passes.inputs ≡ share.passes.inputs
  pub pools : passes.pools ≡ share.passes.pools

-- Its pass of the readers.
abbrev pub told_readers : SharePasses → List ReaderEntry
told_readers passes = option_map_or (λ (pass : ReaderPass). mine pass) passes.readers []

abbrev pub seen_readers : SharePasses → List (ℕ × ReaderEntry)
seen_readers passes = option_map_or (λ (pass : ReaderPass). seen pass) passes.readers []

-- What the readers are told of a message: one entry or none.
abbrev pub entries_in : Message → List ReaderEntry
entries_in (frames.BufferResponse channel sequence backlog what, content) = []
entries_in (frames.ErrorResponse channel code, content) = []
entries_in (frames.PartitionRequest channel credit, content) = Asked channel credit ∷ []
entries_in (frames.Close, content) = []
entries_in (frames.AddCredit channel credit, content) = Granted channel credit ∷ []
entries_in (frames.ResumeConsumption channel, content) = Resumed channel ∷ []
entries_in (frames.BacklogAnnouncement channel backlog, content) = []
entries_in (frames.NewBufferSize channel size, content) = []

-- The readers were told of each request, credit and resumption that was read, in order, and the subpartitions of each size.
pub record HeardControl (channels : List ChannelId) (before after : SharePasses) (messages : List Message) : Type 0 where
  pub told : told_readers after ≡ flat_map entries_in messages
  pub sizes : (k : ℕ) (c : ChannelId) → slice_get channels k ≡ Some c →
      mine_at k after.subpartitions.items ≡ mine_at k before.subpartitions.items ++ map Size (sizes_on c messages)

-- What this end reads.
abbrev pub reads_control : Frame → Bool
reads_control frames.Close = true
reads_control frame = is_from_receiver frame

-- A message on a wrong channel: the readers refuse what they are told of it, or a size is desired on a channel that there isn't.
abbrev pub IsWrong : List ChannelId → List (ℕ × ReaderEntry) → Message → Type 0
IsWrong channels history (frames.PartitionRequest channel credit, content) = IsRefused (ledger_after channels history) (Asked channel credit)
IsWrong channels history (frames.AddCredit channel credit, content) = IsRefused (ledger_after channels history) (Granted channel credit)
IsWrong channels history (frames.ResumeConsumption channel, content) = IsRefused (ledger_after channels history) (Resumed channel)
IsWrong channels history (frames.NewBufferSize channel size, content) = (k : ℕ) → slice_get channels k ≢ Some channel
IsWrong channels history (frames.BufferResponse channel sequence backlog what, content) = ⊥
IsWrong channels history (frames.ErrorResponse channel code, content) = ⊥
IsWrong channels history (frames.Close, content) = ⊥
IsWrong channels history (frames.BacklogAnnouncement channel backlog, content) = ⊥

-- A size above that of a segment is desired.
abbrev pub IsTooLarge : ℕ → Message → Type 0
IsTooLarge size (frames.NewBufferSize channel n, content) = size < n
IsTooLarge size (frames.BufferResponse channel sequence backlog what, content) = ⊥
IsTooLarge size (frames.ErrorResponse channel code, content) = ⊥
IsTooLarge size (frames.PartitionRequest channel credit, content) = ⊥
IsTooLarge size (frames.Close, content) = ⊥
IsTooLarge size (frames.AddCredit channel credit, content) = ⊥
IsTooLarge size (frames.ResumeConsumption channel, content) = ⊥
IsTooLarge size (frames.BacklogAnnouncement channel backlog, content) = ⊥

-- A size may be desired on a channel that there is, up to that of a segment. The other messages are judged by the readers.
abbrev pub IsAllowed : List ChannelId → ℕ → Message → Type 0
IsAllowed channels size (frames.NewBufferSize channel n, content) = ((k : ℕ) × (slice_get channels k ≡ Some channel)) × (n ≤ size)
IsAllowed channels size (frames.BufferResponse channel sequence backlog what, content) = Unit {0}
IsAllowed channels size (frames.ErrorResponse channel code, content) = Unit {0}
IsAllowed channels size (frames.PartitionRequest channel credit, content) = Unit {0}
IsAllowed channels size (frames.Close, content) = Unit {0}
IsAllowed channels size (frames.AddCredit channel credit, content) = Unit {0}
IsAllowed channels size (frames.ResumeConsumption channel, content) = Unit {0}
IsAllowed channels size (frames.BacklogAnnouncement channel backlog, content) = Unit {0}

-- What is known where it met a fault of the other end, with the bytes that were left.
module _ (share : ConnShare) (after : SharePasses) (was_ended ended : Option Bool) (left : List ℕ) where
  abbrev pub MetPeer : PeerFault → Type 0
  MetPeer peers.BadFrame = BeginsBadly reads_control left
  MetPeer peers.Channel = (m : Message) × BeginsWith m left × IsWrong share.channels.now (seen_readers after) m
  MetPeer peers.Size = (m : Message) × BeginsWith m left × IsTooLarge share.size m
  MetPeer peers.Credit = IsOverdueCredit (ledger_after share.channels.now (seen_readers after))
  MetPeer peers.Resume = IsOverdueResumption (ledger_after share.channels.now (seen_readers after))
  MetPeer peers.Cut = IfSome was_ended (λ _. ended ≡ Some true) × (first_met (seen after.stop) ≡ Some (causes.Peer peers.Cut))
  MetPeer other = ⊥

  -- And where it ended by a cause.
  abbrev pub EndedBy : ℕ → ℕ → Cause → Type 0
  EndedBy fell rose causes.Done = StartsWith left closing × HasNoneOverdue (ledger_after share.channels.now (seen_readers after))
  EndedBy fell rose causes.Stopped = Unit {0}
  EndedBy fell rose (causes.Input source) = ⊥
  EndedBy fell rose causes.Keeper = ⊥
  EndedBy fell rose causes.Link = HasRisen fell rose
  EndedBy fell rose (causes.LongLine source) = ⊥
  EndedBy fell rose (causes.BigSource source) = ⊥
  EndedBy fell rose causes.BigImage = ⊥
  EndedBy fell rose (causes.OverCredit channel received announced) = ⊥
  EndedBy fell rose (causes.Peer fault) = MetPeer fault
  EndedBy fell rose causes.Memory = Unit {0}

-- What the loop read, and what it told of it. Each size that was read is desired on a channel that there is, and fits a segment.
pub record ControlAccount (share : ConnShare) (after : SharePasses) (old new : Option (List ℕ)) (was_ended ended : Option Bool) (fell rose : ℕ) (cause : Cause) : Type 0 where
  pub messages : List Message
  pub left : List ℕ
  pub read : Read is_from_receiver old new messages left
  pub allowed : All (IsAllowed share.channels.now share.size) messages
  pub heard : HeardControl share.channels.now share.passes after messages
  pub cause_is : EndedBy share after was_ended ended left fell rose cause
  pub never_falls : fell ≤ rose
