-- What the receiving end of one channel does in a step, and how the gate's pool goes with it. It serves the
-- connection's own functions; no public contract cites it.
use Rattle.std.specs.Prelude.{◌≡◌, ℕ, ◌+◌, ◌-◌, ◌==◌, Bool, List, ◌++◌, length, min, replicate, if◌then◌else◌, Option, Some, None}
use Rattle.flow_defs.specs.declared.parcel.Parcel.{Parcel}
use Rattle.flow_defs.specs.declared.parcel.Parcel.TheVariants as parcels
use Rattle.segment_pool.specs.declared.pool.Pool.{Pool}
use Rattle.local_pool.specs.declared.local.LocalPool.{LocalPool}
use Rattle.local_pool.specs.Locals.{IsLocalOf, IsSameLocal, lent_of}
use Rattle.input_channel.specs.declared.entry.ReceiveEntry.TheVariants as entries
use Rattle.input_channel.specs.declared.entry.Gave.TheVariants as gaves
use Rattle.input_channel.specs.Counts.{wants, gave_by}
use Rattle.input_channel.specs.States.{ChannelState, channel_next}
use Rattle.script_text.specs.declared.reply.Reply.{Reply}
use Rattle.script_text.specs.declared.reply.Reply.TheVariants as replies
use Rattle.exchange_world.specs.Lanes.{floating_here, records_in, behind_records, with_number}
use Rattle.exchange_world.specs.Steps.{after_all, is_exclusive, listed}
use Rattle.exchange_core.specs.declared.lane.Lane.{Lane}

-- How many floating buffers a channel gets of a pool that has lent so many and lends up to that limit.
abbrev pub floats : ℕ → ℕ → ChannelState → ℕ
floats limit lent inbox = min (wants inbox.room inbox.counts) (limit - lent)

-- The channel once it has got them.
abbrev pub with_floats : ℕ → ℕ → ChannelState → ChannelState
with_floats limit lent inbox = after_all inbox (replicate (floats limit lent inbox) entries.Added)

-- The gate's pool after a step of a channel, which had so many of its segments and has so many now.
pub record GateFollows (pool : Pool) (before after : LocalPool) (had has : ℕ) : Type 0 where
  pub local : IsLocalOf pool after
  pub same : IsSameLocal before after
  pub lent : lent_of after + had ≡ lent_of before + has

-- How many the gate's pool has lent then.
abbrev pub lent_then : ℕ → ChannelState → ChannelState → ℕ
lent_then lent old new = (lent + floating_here new) - floating_here old

-- The channel with this receiving end, and these bytes that are of no whole record.
abbrev pub with_inbox : Lane → ChannelState → List ℕ → Lane
with_inbox lane inbox rest = record lane { inbox = inbox; owed = inbox.owed; reader = rest }

-- One floating segment is out with the caller, unless the buffer is an exclusive one.
abbrev pub floating_out : Bool → ℕ
floating_out exclusive = if exclusive then 0 else 1

-- The receiving end once a buffer with these bytes was polled and came back.
abbrev pub polled_back : Bool → List ℕ → ChannelState → ChannelState
polled_back hold bytes inbox =
    let gave = gave_by (Some (parcels.Data bytes)) inbox.counts.held in
    channel_next (channel_next inbox (entries.Poll hold gave)) (entries.Returned (is_exclusive gave))

-- The receiving end once this was polled, where the gate's pool has lent so many and lends up to that limit.
abbrev pub polled_inbox : ℕ → ℕ → Bool → ChannelState → Option Parcel → ChannelState
polled_inbox limit lent hold inbox None = inbox
polled_inbox limit lent hold inbox (Some (parcels.Data bytes)) =
    let back = polled_back hold bytes inbox in
    with_floats limit (lent_then lent inbox back) back
polled_inbox limit lent hold inbox (Some (parcels.Barrier k kind)) = channel_next inbox (entries.Poll hold gaves.NoBuffer)
polled_inbox limit lent hold inbox (Some parcels.End) = channel_next inbox (entries.Poll hold gaves.NoBuffer)

-- The bytes that are of no whole record then.
abbrev pub polled_rest : List ℕ → Option Parcel → List ℕ
polled_rest rest None = rest
polled_rest rest (Some (parcels.Data bytes)) = behind_records (rest ++ bytes)
polled_rest rest (Some (parcels.Barrier k kind)) = rest
polled_rest rest (Some parcels.End) = rest

-- The reply.
abbrev pub polled_reply : ℕ → ChannelState → List ℕ → Option Parcel → Reply
polled_reply c inbox rest None = if length inbox.queue == 0 then replies.Empty c else replies.Held c
polled_reply c inbox rest (Some (parcels.Data bytes)) = replies.Data c (length bytes) (listed (records_in (rest ++ bytes)))
polled_reply c inbox rest (Some (parcels.Barrier k kind)) = replies.Barrier c k kind
polled_reply c inbox rest (Some parcels.End) = replies.End c

-- The channel with a save that was opened for barrier k.
abbrev pub with_save : ℕ → Lane → Lane
with_save k lane = record lane { inbox = channel_next lane.inbox (entries.Save k lane.reader); saves = record { keys = with_number k lane.saves.keys } }
