-- What one message and one round of the loop come to. They serve the private functions; the loop is this project's own choice.
use Rattle.std.specs.Prelude.{◌≡◌, ◌≢◌, ℕ, ◌<◌, ◌⊎◌, true, false, Bool, List, [], ◌∷◌, ◌++◌, length, map, flat_map, slice_get, All, Option, Some, None, IfSome, Result, Ok, Err}
use Rattle.turn_cell.specs.declared.cell.TurnCell.{TurnCell}
use Rattle.turn_cell.specs.declared.pass.Pass.{Pass}
use Rattle.turn_cell.specs.History.{StartsWith}
use Rattle.turn_cell.specs.Passes.{IsPassOf, mine, seen, opened_with}
use Rattle.flow_defs.specs.declared.task.ChannelId.{ChannelId}
use Rattle.flow_defs.specs.declared.cause.Cause.{Cause}
use Rattle.flow_defs.specs.declared.cause.Cause.TheVariants as causes
use Rattle.flow_defs.specs.declared.cause.PeerFault.{PeerFault}
use Rattle.flow_defs.specs.declared.cause.PeerFault.TheVariants as peers
use Rattle.credit_reader.specs.Senders.{AreDistinct}
use Rattle.net_frames.specs.Frames.{AreFrames, all_spelled}
use Rattle.net_frames.specs.declared.frame.Frame.TheVariants as frames
use Rattle.subpartition.specs.Queues.{Queue}
use Rattle.subpartition.specs.declared.entry.SendEntry.{SendEntry}
use Rattle.subpartition.specs.declared.entry.SendEntry.TheVariants.{Size}
use Rattle.reader_state.specs.declared.entry.ReaderEntry.{ReaderEntry}
use Rattle.reader_state.specs.Ledgers.{IsOverdueCredit, IsOverdueResumption, HasNoneOverdue}
use Rattle.reader_state.specs.Turning.{channels_in, ledger_after, IsReaderPass}
use Rattle.outside.specs.declared.stop.StopEntry.{StopEntry}
use Rattle.outside.specs.Faults.{HasRisen}
use Rattle.outside.specs.Links.{Appended}
use Rattle.outside.specs.Stops.{first_met}
use Rattle.conn_parts.specs.Shares.{AreOwn, mine_at}
use Rattle.conn_parts.specs.Messages.{Message, closing, AreFrom, is_from_receiver, sizes_on}
use Rattle.conn_parts.specs.Reading.{BeginsBadly, BeginsWith}
use Rattle.conn_read_control.specs.declared.cells.ControlCells.{ControlCells}
use Rattle.conn_read_control.specs.declared.cells.ControlPasses.{ControlPasses}
use Rattle.conn_read_control.specs.Controlling.{entries_in, reads_control, IsWrong, IsTooLarge, IsAllowed}

-- ---- sizes

abbrev pub SendPass : Type 0
SendPass = Pass Queue SendEntry ℕ

-- Each subpartition has segments of this size.
abbrev pub AreSized : ℕ → List (TurnCell Queue SendEntry ℕ) → Type 0
AreSized size cells = All (λ (cell : TurnCell Queue SendEntry ℕ). (opened_with cell).size ≡ size) cells

-- The pass at a place told its subpartition of a size, and the others told nothing.
pub record HasDesired (place n : ℕ) (before after : List SendPass) : Type 0 where
  pub told : mine_at place after ≡ mine_at place before ++ Size n ∷ []
  pub others : (k : ℕ) → k ≢ place → mine_at k after ≡ mine_at k before

-- The subpartitions were told of the sizes in these messages.
abbrev pub HeardSizes : List ChannelId → List SendPass → List SendPass → List Message → Type 0
HeardSizes channels before after messages = (k : ℕ) (c : ChannelId) → slice_get channels k ≡ Some c → mine_at k after ≡ mine_at k before ++ map Size (sizes_on c messages)

-- What became of a desired size.
module _ (channels : List ChannelId) (size : ℕ) (channel : ChannelId) (n : ℕ) (before after : List SendPass) where
  abbrev pub TookSize : Result (Unit {0}) PeerFault → Type 0
  TookSize (Ok done) = HeardSizes channels before after ((frames.NewBufferSize channel n, []) ∷ []) × IsAllowed channels size (frames.NewBufferSize channel n, [])
  TookSize (Err peers.Channel) = (after ≡ before) × ((k : ℕ) → slice_get channels k ≢ Some channel)
  TookSize (Err peers.Size) = (after ≡ before) × (size < n)
  TookSize (Err fault) = ⊥

-- ---- one message

-- What is known of the cells.
pub record AreCells (cells : ControlCells) : Type 0 where
  pub channels : channels_in cells.readers.now ≡ cells.channels.now
  pub distinct : AreDistinct cells.channels.now
  pub places : length cells.subpartitions.now ≡ length cells.channels.now
  pub sizes : AreSized cells.size cells.subpartitions.now

-- The passes are passes of the cells, with the numbers of a reader of control frames.
pub record FitCells (cells : ControlCells) (passes : ControlPasses) : Type 0 where
  pub readers : IsReaderPass cells.readers.now 1 passes.readers
  pub subpartitions : AreOwn 2 cells.subpartitions.now passes.subpartitions.items
  pub stop : IsPassOf cells.stop.now passes.stop

-- The readers and the subpartitions were told of these messages, in which each size was allowed.
pub record Heard (channels : List ChannelId) (size : ℕ) (before after : ControlPasses) (messages : List Message) : Type 0 where
  pub direction : AreFrom is_from_receiver messages
  pub allowed : All (IsAllowed channels size) messages
  pub told : mine after.readers ≡ mine before.readers ++ flat_map entries_in messages
  pub sizes : HeardSizes channels before.subpartitions.items after.subpartitions.items messages

-- What of a message counts as read: all but the closing frame, which stays.
abbrev pub but_closing : Message → List Message
but_closing (frames.Close, content) = []
but_closing m = m ∷ []

-- What counts as read where a message met a fault: nothing was told of one that is wrong by itself.
abbrev pub read_at : Message → PeerFault → List Message
read_at m peers.Credit = but_closing m
read_at m peers.Resume = but_closing m
read_at m fault = []

-- What a fault says of the message at which it was met, or of the readers.
module _ (channels : List ChannelId) (size : ℕ) (history : List (ℕ × ReaderEntry)) (m : Message) where
  abbrev pub IsFaultAt : PeerFault → Type 0
  IsFaultAt peers.BadFrame = reads_control m.0 ≡ false
  IsFaultAt peers.Channel = IsWrong channels history m
  IsFaultAt peers.Size = IsTooLarge size m
  IsFaultAt peers.Credit = IsOverdueCredit (ledger_after channels history)
  IsFaultAt peers.Resume = IsOverdueResumption (ledger_after channels history)
  IsFaultAt fault = ⊥

-- At the closing frame nothing is overdue.
abbrev pub LookedAt : List ChannelId → List (ℕ × ReaderEntry) → Message → Type 0
LookedAt channels history (frames.Close, content) = HasNoneOverdue (ledger_after channels history)
LookedAt channels history m = Unit {0}

-- What became of a message.
module _ (cells : ControlCells) (before after : ControlPasses) (m : Message) where
  abbrev pub TookFrame : Result (Unit {0}) PeerFault → Type 0
  TookFrame (Ok done) = Heard cells.channels.now cells.size before after (but_closing m) × LookedAt cells.channels.now (seen after.readers) m
  TookFrame (Err fault) = Heard cells.channels.now cells.size before after (read_at m fault) × IsFaultAt cells.channels.now cells.size (seen after.readers) m fault

-- ---- one round

-- Messages at the front of the pending bytes were read and told, and these bytes are left.
pub record Goes (channels : List ChannelId) (size : ℕ) (before after : ControlPasses) (pending left : List ℕ) (messages : List Message) : Type 0 where
  pub frames : AreFrames messages
  pub heard : Heard channels size before after messages
  pub spelled : pending ≡ all_spelled messages ++ left

-- Bytes came, and those that were pending and they are messages that were read and told, and then those that are left.
pub record Gets (channels : List ChannelId) (size : ℕ) (before after : ControlPasses) (old new : Option (List ℕ)) (pending left : List ℕ) (messages : List Message) : Type 0 where
  pub added : List ℕ
  pub told : Appended old new added
  pub goes : Goes channels size before after (pending ++ added) left messages

-- What a fault of the other end says of the bytes that are left, of the readers, or of the end of the bytes.
module _ (channels : List ChannelId) (size : ℕ) (history : List (ℕ × ReaderEntry)) (was_ended ended : Option Bool) (left : List ℕ) where
  abbrev pub MeetsPeer : PeerFault → Type 0
  MeetsPeer peers.BadFrame = BeginsBadly reads_control left
  MeetsPeer peers.Channel = (m : Message) × BeginsWith m left × IsWrong channels history m
  MeetsPeer peers.Size = (m : Message) × BeginsWith m left × IsTooLarge size m
  MeetsPeer peers.Credit = IsOverdueCredit (ledger_after channels history)
  MeetsPeer peers.Resume = IsOverdueResumption (ledger_after channels history)
  MeetsPeer peers.Cut = IfSome was_ended (λ _. ended ≡ Some true)
  MeetsPeer fault = ⊥

  -- And where the rounds ended by a cause.
  abbrev pub EndsBy : ℕ → ℕ → Cause → Type 0
  EndsBy fell rose causes.Done = StartsWith left closing × HasNoneOverdue (ledger_after channels history)
  EndsBy fell rose causes.Stopped = Unit {0}
  EndsBy fell rose (causes.Input source) = ⊥
  EndsBy fell rose causes.Keeper = ⊥
  EndsBy fell rose causes.Link = HasRisen fell rose
  EndsBy fell rose (causes.LongLine source) = ⊥
  EndsBy fell rose (causes.BigSource source) = ⊥
  EndsBy fell rose causes.BigImage = ⊥
  EndsBy fell rose (causes.OverCredit channel received announced) = ⊥
  EndsBy fell rose (causes.Peer fault) = MeetsPeer fault
  EndsBy fell rose causes.Memory = Unit {0}

-- The loop was stopped only where its pass had seen a fault, and was done only where it had seen none.
pub record HasLooked (cause : Cause) (stops : List (ℕ × StopEntry)) : Type 0 where
  pub stopped : cause ≡ causes.Stopped → stops ≢ []
  pub done : cause ≡ causes.Done → stops ≡ []

-- What handling the first frame came to: it was told, or the loop is to end.
module _ (cells : ControlCells) (before after : ControlPasses) (pending left : List ℕ) where
  abbrev pub HasHandled : Option Cause → Type 0
  HasHandled None = (messages : List Message) × Goes cells.channels.now cells.size before after pending left messages
  HasHandled (Some causes.Done) =
      Goes cells.channels.now cells.size before after pending pending [] × StartsWith pending closing × HasNoneOverdue (ledger_after cells.channels.now (seen after.readers))
  HasHandled (Some (causes.Peer fault)) =
      (messages : List Message) × (rest : List ℕ) × Goes cells.channels.now cells.size before after pending rest messages
      × (fault ≢ peers.Cut) × MeetsPeer cells.channels.now cells.size (seen after.readers) None None rest fault
  HasHandled (Some cause) = ⊥

-- What a read came to: bytes stand behind the others, or the loop is to end.
module _ (old new : Option (List ℕ)) (was_ended ended : Option Bool) (fell rose : ℕ) (pending left : List ℕ) where
  abbrev pub HasRead : Option Cause → Type 0
  HasRead None = (added : List ℕ) × Appended old new added × (left ≡ pending ++ added) × (ended ≡ was_ended)
  HasRead (Some (causes.Peer peers.Cut)) = (added : List ℕ) × Appended old new added × IfSome was_ended (λ _. ended ≡ Some true)
  HasRead (Some causes.Link) = (new ≡ old) × HasRisen fell rose
  HasRead (Some cause) = ⊥

-- Rounds that ended by a cause.
pub record HasEnded (cells : ControlCells) (before after : ControlPasses) (old new : Option (List ℕ)) (was_ended ended : Option Bool) (fell rose : ℕ) (pending : List ℕ) (cause : Cause) : Type 0 where
  pub messages : List Message
  pub left : List ℕ
  pub gets : Gets cells.channels.now cells.size before after old new pending left messages
  pub ends : EndsBy cells.channels.now cells.size (seen after.readers) was_ended ended left fell rose cause
  pub looked : HasLooked cause (seen after.stop)

-- What a round came to.
module _ (cells : ControlCells) (before after : ControlPasses) (old new : Option (List ℕ)) (was_ended ended : Option Bool) (fell rose : ℕ) (pending left : List ℕ) where
  abbrev pub Went : Option Cause → Type 0
  Went None = ((messages : List Message) × Gets cells.channels.now cells.size before after old new pending left messages) × (ended ≡ was_ended)
  Went (Some cause) = HasEnded cells before after old new was_ended ended fell rose pending cause

-- ---- the end

-- What was told of the cause for which the rounds ended, and whether it counts: the end of the bytes does not where another fault was
-- met before. More bytes may have come, but not behind the end of the bytes.
module _ (stops : List (ℕ × StopEntry)) (was_ended ended : Option Bool) (met : Cause) where
  abbrev pub HasFinished : Cause → Type 0
  HasFinished told =
      ((told ≡ met) × (met ≡ causes.Peer peers.Cut → (ended ≡ was_ended) × (first_met stops ≡ Some (causes.Peer peers.Cut))))
      ⊎ (told ≡ causes.Stopped)
