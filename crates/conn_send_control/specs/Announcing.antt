-- What the loop that writes control frames did. Requests, credit and resumptions are those of Flink's credit-based flow control; the
-- loop is this project's own choice.
use Rattle.std.specs.Prelude.{◌≡◌, ℕ, ◌+◌, ◌⊎◌, true, false, List, [], ◌++◌, length, slice_get, All, Option, Some}
use Rattle.turn_cell.specs.History.{entries_of}
use Rattle.turn_cell.specs.Passes.{IsPassOf}
use Rattle.flow_defs.specs.declared.task.ChannelId.{ChannelId}
use Rattle.flow_defs.specs.Parcels.{has_end}
use Rattle.flow_defs.specs.declared.cause.Cause.{Cause}
use Rattle.flow_defs.specs.declared.cause.Cause.TheVariants as causes
use Rattle.credit_reader.specs.Senders.{AreDistinct}
use Rattle.input_channel.specs.Inboxes.{pushed}
use Rattle.input_channel.specs.Legal.{credit_told, resumes}
use Rattle.conn_parts.specs.declared.share.ConnShare.{ConnShare}
use Rattle.conn_parts.specs.declared.share.SharePasses.{SharePasses}
use Rattle.conn_parts.specs.Shares.{AreOwn, mine_at, seen_at}
use Rattle.conn_parts.specs.Messages.{Message, is_from_receiver, is_request, requests_of, credit_on, resumptions_on}
use Rattle.conn_parts.specs.Writing.{Wrote}

-- What the loop is lent: passes of the cells that it enters, with the number of a writer of control frames.
pub record MaySendControl (share : ConnShare) : Type 0 where
  pub distinct : AreDistinct share.channels.now
  pub places : length share.inputs.now ≡ length share.channels.now
  pub inputs : AreOwn 2 share.inputs.now share.passes.inputs.items
  pub stop : IsPassOf share.stop.now share.passes.stop

-- The passes come back as such.
pub record AnnounceHandsBack (share : ConnShare) (passes : SharePasses) : Type 0 where
  pub readers : passes.readers ≡ share.passes.readers
  pub subpartitions : passes.subpartitions ≡ share.passes.subpartitions
  pub inputs : AreOwn 2 share.inputs.now passes.inputs.items
  pub pools : passes.pools ≡ share.passes.pools

-- Why it may end.
abbrev pub IsSendCause : Cause → Type 0
IsSendCause causes.Done = Unit {0}
IsSendCause causes.Stopped = Unit {0}
IsSendCause causes.Link = Unit {0}
IsSendCause causes.Memory = Unit {0}
IsSendCause other = ⊥

-- The partition requests come first, one for each channel, and no other follows; or there is no message at all.
abbrev pub BeginsWithRequests : List ChannelId → List Message → Type 0
BeginsWithRequests channels messages = (messages ≡ []) ⊎ ((rest : List Message) × (messages ≡ requests_of channels ++ rest) × All (λ m. is_request m.0 ≡ false) rest)

-- Beside the requests the messages are the credit and the resumptions that its own turns took, channel by channel. Where it is done
-- the end of each channel had come.
pub record ToldCredit (channels : List ChannelId) (before after : SharePasses) (messages : List Message) (cause : Cause) : Type 0 where
  pub requests : BeginsWithRequests channels messages
  pub credit : (k : ℕ) (c : ChannelId) → slice_get channels k ≡ Some c →
      credit_told (mine_at k after.inputs.items) ≡ credit_told (mine_at k before.inputs.items) + credit_on c messages
  pub resumptions : (k : ℕ) (c : ChannelId) → slice_get channels k ≡ Some c →
      resumes (mine_at k after.inputs.items) ≡ resumes (mine_at k before.inputs.items) + resumptions_on c messages
  pub ends : cause ≡ causes.Done → (k : ℕ) (c : ChannelId) → slice_get channels k ≡ Some c → has_end (pushed (entries_of (seen_at k after.inputs.items))) ≡ true

-- What the loop took, and what it wrote.
pub record AnnounceAccount (channels : List ChannelId) (before after : SharePasses) (old new : Option (List ℕ)) (fell rose : ℕ) (cause : Cause) : Type 0 where
  pub messages : List Message
  pub wrote : Wrote is_from_receiver old new fell rose messages cause
  pub told : ToldCredit channels before after messages cause
  pub cause_is : IsSendCause cause
