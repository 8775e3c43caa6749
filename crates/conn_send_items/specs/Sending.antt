-- What the loop that writes items did. The loop is this project's own choice; what it writes is that of Flink's credit-based flow
-- control: items with sequence numbers and backlog, and announcements of backlog.
use Rattle.std.specs.Prelude.{◌≡◌, ◌≢◌, ℕ, ◌<◌, true, List, [], ◌++◌, length, map, slice_get, All, Option, Some}
use Rattle.std.specs.Option.{option_map_or}
use Rattle.turn_cell.specs.History.{entries_of}
use Rattle.turn_cell.specs.Passes.{IsPassOf, mine}
use Rattle.flow_defs.specs.declared.task.ChannelId.{ChannelId}
use Rattle.flow_defs.specs.declared.task.BarrierKind.TheVariants as barrier
use Rattle.flow_defs.specs.declared.parcel.Parcel.{Parcel}
use Rattle.flow_defs.specs.declared.parcel.Parcel.TheVariants.{Data, Barrier, End}
use Rattle.flow_defs.specs.Parcels.{has_end}
use Rattle.flow_defs.specs.declared.cause.Cause.{Cause}
use Rattle.flow_defs.specs.declared.cause.Cause.TheVariants as causes
use Rattle.credit_reader.specs.Senders.{AreDistinct}
use Rattle.credit_reader.specs.declared.reader.SentKind.{SentKind}
use Rattle.credit_reader.specs.declared.reader.SentKind.TheVariants as kinds
use Rattle.subpartition.specs.Sending.{taken}
use Rattle.reader_state.specs.declared.entry.ReaderEntry.{ReaderEntry}
use Rattle.reader_state.specs.Standing.{sent_on, told_last, announced_on}
use Rattle.reader_state.specs.Turning.{ReaderPass, channels_in, IsReaderPass}
use Rattle.conn_parts.specs.declared.share.ConnShare.{ConnShare}
use Rattle.conn_parts.specs.declared.share.SharePasses.{SharePasses}
use Rattle.conn_parts.specs.Shares.{AreOf, AreOwn, seen_at, HavePoolSize}
use Rattle.conn_parts.specs.Messages.{Message, is_from_sender, items_on, sequences_on, counted}
use Rattle.conn_parts.specs.Writing.{Wrote}
use Rattle.conn_send_items.specs.Fronts.{HaveQueueSize, backlog_after, behind_in, StoodIn}
use Rattle.conn_send_items.specs.Items.{backlogs_on, announcements_on}

-- What the loop is lent: passes of the cells that it enters, with the numbers of a writer of items, of which that of the readers has
-- made no entry.
pub record MaySendItems (share : ConnShare) : Type 0 where
  pub channels : channels_in share.readers.now ≡ share.channels.now
  pub distinct : AreDistinct share.channels.now
  pub places : length share.subpartitions.now ≡ length share.channels.now
  pub reader_pass : ReaderPass
  pub readers : share.passes.readers ≡ Some reader_pass
  pub reader_is : IsReaderPass share.readers.now 0 reader_pass
  pub new : mine reader_pass ≡ []
  pub subpartitions : AreOwn 1 share.subpartitions.now share.passes.subpartitions.items
  pub queue_sizes : HaveQueueSize share.size share.subpartitions.now
  pub pools : AreOf share.pools.now share.passes.pools.items
  pub sizes : HavePoolSize share.size share.pools.now
  pub senders : All (λ c. c.from < length share.pools.now) share.channels.now
  pub stop : IsPassOf share.stop.now share.passes.stop

-- The passes come back as such.
pub record SendHandsBack (share : ConnShare) (passes : SharePasses) : Type 0 where
  pub reader_pass : ReaderPass
  pub readers : passes.readers ≡ Some reader_pass
  pub reader_is : IsReaderPass share.readers.now 0 reader_pass
  pub subpartitions : AreOwn 1 share.subpartitions.now passes.subpartitions.items
  pub inputs : passes.inputs ≡ share.passes.inputs
  pub pools : AreOf share.pools.now passes.pools.items

-- The entries that its pass made at the readers.
abbrev pub told_readers : SharePasses → List ReaderEntry
told_readers passes = option_map_or (λ (pass : ReaderPass). mine pass) passes.readers []

-- What of an item the readers are told.
abbrev pub sent_kind : Parcel → SentKind
sent_kind (Data bytes) = kinds.Buffer
sent_kind (Barrier k barrier.Inline) = kinds.Inline
sent_kind (Barrier k barrier.Front) = kinds.Front
sent_kind End = kinds.End

-- Why it may end.
abbrev pub IsSendCause : Cause → Type 0
IsSendCause causes.Done = Unit {0}
IsSendCause causes.Stopped = Unit {0}
IsSendCause causes.Link = Unit {0}
IsSendCause causes.Memory = Unit {0}
IsSendCause other = ⊥

-- The backlog in the frame of an item is that of what was left behind it in the turn in which it was taken. One that is announced is
-- what the readers were told last, and stood there at some point of what the loop has seen. In the end what they were told last of a channel is what the
-- loop saw there last, where it had the memory to begin.
pub record BacklogsAreTold (channels : List ChannelId) (before after : SharePasses) (messages : List Message) (cause : Cause) : Type 0 where
  pub behind : (k : ℕ) (c : ChannelId) → slice_get channels k ≡ Some c →
      behind_in (seen_at k after.subpartitions.items) ≡ behind_in (seen_at k before.subpartitions.items) ++ backlogs_on c messages
  pub announced : (c : ChannelId) → announced_on c (told_readers after) ≡ announcements_on c messages
  pub stood : (k : ℕ) (c : ChannelId) → slice_get channels k ≡ Some c → All (StoodIn (seen_at k after.subpartitions.items)) (announcements_on c messages)
  pub last : cause ≢ causes.Memory → (k : ℕ) (c : ChannelId) → slice_get channels k ≡ Some c → told_last c (told_readers after) ≡ backlog_after (seen_at k after.subpartitions.items)

-- The messages are the items that it took, channel by channel, with their sequence numbers, and announcements; the readers were told
-- of each item. Where it is done the end of each channel is among them.
pub record SentItems (channels : List ChannelId) (before after : SharePasses) (messages : List Message) (cause : Cause) : Type 0 where
  pub took : (k : ℕ) (c : ChannelId) → slice_get channels k ≡ Some c →
      taken (entries_of (seen_at k after.subpartitions.items)) ≡ taken (entries_of (seen_at k before.subpartitions.items)) ++ items_on c messages
  pub numbers : (c : ChannelId) → sequences_on c messages ≡ counted 0 (length (items_on c messages))
  pub told : (c : ChannelId) → sent_on c (told_readers after) ≡ map sent_kind (items_on c messages)
  pub backlogs : BacklogsAreTold channels before after messages cause
  pub ends : cause ≡ causes.Done → (k : ℕ) (c : ChannelId) → slice_get channels k ≡ Some c → has_end (items_on c messages) ≡ true

-- What the loop took, and what it wrote.
pub record SendAccount (channels : List ChannelId) (before after : SharePasses) (old new : Option (List ℕ)) (fell rose : ℕ) (cause : Cause) : Type 0 where
  pub messages : List Message
  pub wrote : Wrote is_from_sender old new fell rose messages cause
  pub sent : SentItems channels before after messages cause
  pub cause_is : IsSendCause cause
