-- What the steps of the loop that writes items do. The loop is this project's own choice.
use Rattle.std.specs.Prelude.{◌≡◌, ◌≢◌, ◌⊎◌, ℕ, ◌<◌, Bool, true, List, [], ◌++◌, length, map, slice_get, slice_set as set, All, Option, Some, Result}
use Rattle.turn_cell.specs.History.{StartsWith}
use Rattle.turn_cell.specs.Passes.{IsPassOf, IsSamePass, mine, seen}
use Rattle.flow_defs.specs.declared.task.ChannelId.{ChannelId}
use Rattle.flow_defs.specs.Parcels.{has_end}
use Rattle.flow_defs.specs.declared.cause.Cause.{Cause}
use Rattle.flow_defs.specs.declared.cause.Cause.TheVariants as causes
use Rattle.net_frames.specs.Frames.{AreFrames, all_spelled}
use Rattle.credit_reader.specs.Senders.{AreDistinct}
use Rattle.subpartition.specs.declared.item.Item.{Item}
use Rattle.subpartition.specs.declared.item.Item.TheVariants.{Buffer, Barrier, End}
use Rattle.outside.specs.Faults.{HasRisen}
use Rattle.outside.specs.Links.{Appended}
use Rattle.reader_state.specs.declared.entry.ReaderEntry.{ReaderEntry}
use Rattle.reader_state.specs.Standing.{sent_on, told_last, announced_on}
use Rattle.reader_state.specs.Turning.{channels_in, IsReaderPass}
use Rattle.conn_parts.specs.Shares.{AreOf, AreOwn, seen_at, HavePoolSize}
use Rattle.conn_parts.specs.Messages.{Message, AreFrom, is_from_sender, items_on, sequences_on, counted, closing}
use Rattle.conn_parts.specs.Stopping.{StopCell, StopPass}
use Rattle.conn_parts.specs.Writing.{AppendedFront, WrittenWhole}
use Rattle.conn_send_items.specs.declared.cells.Front.{Front}
use Rattle.conn_send_items.specs.declared.cells.SendCells.{SendCells}
use Rattle.conn_send_items.specs.declared.cells.SendPasses.{SendPasses}
use Rattle.conn_send_items.specs.Fronts.{SendPass, HaveQueueSize, taken_in, backlog_after, behind_in, StoodIn, StandsAt}
use Rattle.conn_send_items.specs.Items.{backlogs_on, announcements_on}
use Rattle.conn_send_items.specs.Sending.{sent_kind, IsSendCause}

-- ---- what a loop is lent

-- The cells of the channels of a connection.
pub record AreCells (cells : SendCells) : Type 0 where
  pub channels : channels_in cells.readers.now ≡ cells.channels.now
  pub distinct : AreDistinct cells.channels.now
  pub places : length cells.subpartitions.now ≡ length cells.channels.now
  pub sizes : HavePoolSize cells.size cells.pools.now
  pub senders : All (λ c. c.from < length cells.pools.now) cells.channels.now
  pub queue_sizes : HaveQueueSize cells.size cells.subpartitions.now

-- Passes of them, with the numbers of a writer of items.
pub record HasPasses (cells : SendCells) (passes : SendPasses) : Type 0 where
  pub reader : IsReaderPass cells.readers.now 0 passes.readers
  pub subpartitions : AreOwn 1 cells.subpartitions.now passes.subpartitions.items
  pub pools : AreOf cells.pools.now passes.pools.items

-- What was told to stand first does so at each place.
abbrev pub AllStand : SendCells → SendPasses → Type 0
AllStand cells passes = (k : ℕ) → StandsAt cells.channels.now (seen passes.readers) passes.subpartitions.items k

-- What stood so at a place still does.
abbrev pub KeepsStanding : SendCells → SendPasses → SendPasses → Type 0
KeepsStanding cells before now = (k : ℕ) → StandsAt cells.channels.now (seen before.readers) before.subpartitions.items k →
    StandsAt cells.channels.now (seen now.readers) now.subpartitions.items k

-- The reader of the channel at a place was told this backlog last, and just that stands there.
abbrev pub BacklogAt : List ChannelId → List ReaderEntry → List SendPass → ℕ → ℕ → Type 0
BacklogAt channels own passes k backlog = ((c : ChannelId) → slice_get channels k ≡ Some c → told_last c own ≡ backlog) × (backlog_after (seen_at k passes) ≡ backlog)

-- So it is at a place with a front, and at the others as it was.
pub record TellsBacklog (cells : SendCells) (before now : SendPasses) (place : ℕ) (front : Front) : Type 0 where
  pub here : BacklogAt cells.channels.now (mine now.readers) now.subpartitions.items place front.backlog
  pub others : (k n : ℕ) → k ≢ place → BacklogAt cells.channels.now (mine before.readers) before.subpartitions.items k n → BacklogAt cells.channels.now (mine now.readers) now.subpartitions.items k n

-- At all places it is as it was.
abbrev pub KeepsBacklogs : SendCells → SendPasses → SendPasses → Type 0
KeepsBacklogs cells before now = (k n : ℕ) → BacklogAt cells.channels.now (mine before.readers) before.subpartitions.items k n → BacklogAt cells.channels.now (mine now.readers) now.subpartitions.items k n

-- So it is at each place with the front that the loop noted there.
pub record AreNoted (cells : SendCells) (passes : SendPasses) (fronts : List Front) : Type 0 where
  pub many : length fronts ≡ length cells.channels.now
  pub each : (k : ℕ) (front : Front) → slice_get fronts k ≡ Some front → BacklogAt cells.channels.now (mine passes.readers) passes.subpartitions.items k front.backlog

-- The flag of a place is raised where the item is the end.
abbrev pub EndsWith : ℕ → Item → List Bool → List Bool → Type 0
EndsWith place (Buffer filled) flags now = now ≡ flags
EndsWith place (Barrier k kind) flags now = now ≡ flags
EndsWith place End flags now = now ≡ set flags place true

-- What was written until a loop ended: a front where a write failed.
abbrev pub WrittenUntil : Option (List ℕ) → Option (List ℕ) → ℕ → ℕ → List ℕ → Cause → Type 0
WrittenUntil old new fell rose bytes causes.Link = AppendedFront old new bytes × HasRisen fell rose
WrittenUntil old new fell rose bytes other = Appended old new bytes

-- ---- what a step does

module _ (channels : List ChannelId) where
  -- The messages bring the items that were taken, with the next sequence numbers and the backlog behind each, and the readers were told
  -- of each. What is announced is what the readers were told last, and stood there at a turn.
  pub record Sends (before after : List SendPass) (own own_after : List ReaderEntry) (added : List Message) : Type 0 where
    pub took : (k : ℕ) (c : ChannelId) → slice_get channels k ≡ Some c → taken_in (seen_at k after) ≡ taken_in (seen_at k before) ++ items_on c added
    pub numbers : (c : ChannelId) → sequences_on c added ≡ counted (length (sent_on c own)) (length (items_on c added))
    pub told : (c : ChannelId) → sent_on c own_after ≡ sent_on c own ++ map sent_kind (items_on c added)
    pub grows : (k : ℕ) → StartsWith (seen_at k after) (seen_at k before)
    pub behind : (k : ℕ) (c : ChannelId) → slice_get channels k ≡ Some c → behind_in (seen_at k after) ≡ behind_in (seen_at k before) ++ backlogs_on c added
    pub announced : (c : ChannelId) → announced_on c own_after ≡ announced_on c own ++ announcements_on c added
    pub stood : (k : ℕ) (c : ChannelId) → slice_get channels k ≡ Some c → All (StoodIn (seen_at k after)) (announcements_on c added)

  -- Where a flag was raised, the end of that channel is among them.
  abbrev pub Ends : List Bool → List Bool → List Message → Type 0
  Ends flags now added = (k : ℕ) (c : ChannelId) → slice_get channels k ≡ Some c → slice_get now k ≡ Some true →
      (slice_get flags k ≡ Some true) ⊎ (has_end (items_on c added) ≡ true)

  module _ (before after : List SendPass) (own own_after : List ReaderEntry) (flags now : List Bool) where
    -- Both, and the messages are frames of a sender.
    pub record Says (added : List Message) : Type 0 where
      pub frames : AreFrames added
      pub direction : AreFrom is_from_sender added
      pub sends : Sends before after own own_after added
      pub ends : Ends flags now added

    -- They were laid down behind these bytes.
    pub record Lays (bytes bytes_after : List ℕ) : Type 0 where
      pub added : List Message
      pub says : Says added
      pub laid : bytes_after ≡ bytes ++ all_spelled added

    module _ (old new : Option (List ℕ)) (fell rose : ℕ) where
      -- They were written, whole where no write failed.
      pub record Writes {T E : Type 0} (result : Result T E) : Type 0 where
        pub added : List Message
        pub says : Says added
        pub written : WrittenWhole old new fell rose (all_spelled added) result

      -- They were written until a loop ended by this cause.
      pub record WritesUntil (cause : Cause) : Type 0 where
        pub added : List Message
        pub says : Says added
        pub cause_is : IsSendCause cause
        pub written : WrittenUntil old new fell rose (all_spelled added) cause
        pub all_ended : cause ≡ causes.Done → (k : ℕ) → k < length channels → slice_get now k ≡ Some true

    -- What a loop has written so far.
    pub record HasWritten (old new : Option (List ℕ)) : Type 0 where
      pub added : List Message
      pub says : Says added
      pub written : Appended old new (all_spelled added)

-- What a loop has sent since its pass of the readers was new. Where it is done it has sent the end of each channel.
pub record SendsUntil (channels : List ChannelId) (before after : List SendPass) (own_after : List ReaderEntry) (old new : Option (List ℕ)) (fell rose : ℕ) (cause : Cause) : Type 0 where
  pub added : List Message
  pub frames : AreFrames added
  pub direction : AreFrom is_from_sender added
  pub sends : Sends channels before after [] own_after added
  pub written : WrittenUntil old new fell rose (all_spelled added) cause
  pub ends : cause ≡ causes.Done → (k : ℕ) (c : ChannelId) → slice_get channels k ≡ Some c → has_end (items_on c added) ≡ true
  pub last : cause ≢ causes.Memory → (k : ℕ) (c : ChannelId) → slice_get channels k ≡ Some c → told_last c own_after ≡ backlog_after (seen_at k after)
  pub cause_is : IsSendCause cause

-- ---- how a loop ends

-- Its pass of the stop cell has looked, and made no entry: it is stopped only where there was one, and is done only where there was none.
pub record LooksForStop (cell : StopCell) (before after : StopPass) (cause : Cause) : Type 0 where
  pub pass : IsPassOf cell after
  pub same : IsSamePass before after
  pub stopped : cause ≡ causes.Stopped → seen after ≢ []
  pub done : cause ≡ causes.Done → seen after ≡ []

-- How a half of a link was closed after a loop: with the closing frame, unless a write had failed before.
abbrev pub ClosedAfter : {T E : Type 0} → Option (List ℕ) → Option (List ℕ) → ℕ → ℕ → Cause → Result T E → Type 0
ClosedAfter old new fell rose causes.Link result = new ≡ old
ClosedAfter old new fell rose other result = WrittenWhole old new fell rose closing result

-- The same by the causes before and after it.
abbrev pub ClosedAs : Option (List ℕ) → Option (List ℕ) → ℕ → ℕ → Cause → Cause → Type 0
ClosedAs old new fell rose causes.Link after = (after ≡ causes.Link) × (new ≡ old)
ClosedAs old new fell rose causes.Done causes.Done = Appended old new closing
ClosedAs old new fell rose causes.Done after = (after ≡ causes.Link) × AppendedFront old new closing × HasRisen fell rose
ClosedAs old new fell rose causes.Stopped causes.Stopped = Appended old new closing
ClosedAs old new fell rose causes.Stopped after = (after ≡ causes.Link) × AppendedFront old new closing × HasRisen fell rose
ClosedAs old new fell rose before after = (after ≡ before) × (Appended old new closing ⊎ (AppendedFront old new closing × HasRisen fell rose))
