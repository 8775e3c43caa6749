-- What one channel of a connection does in a step. It serves the connection's own functions; no public
-- contract cites it.
use Rattle.std.specs.Prelude.{◌≡◌, ℕ, ◌+◌, ◌<◌, List, [], ◌∷◌, length, map, slice_index}
use Rattle.flow_defs.specs.Items.{Items}
use Rattle.flow_defs.specs.Records.{encoded}
use Rattle.flow_defs.specs.declared.task.BarrierKind.{BarrierKind}
use Rattle.flow_defs.specs.declared.task.BarrierKind.TheVariants.{Inline, Front}
use Rattle.flow_defs.specs.declared.parcel.Parcel.{Parcel}
use Rattle.flow_defs.specs.declared.parcel.Parcel.TheVariants as parcels
use Rattle.segment_pool.specs.declared.pool.Pool.{Pool}
use Rattle.segment_pool.specs.Pools.{size_of}
use Rattle.subpartition.specs.Queues as queues
use Rattle.subpartition.specs.Queues.{with_front_barrier}
use Rattle.local_pool.specs.Locals.{lent_of}
use Rattle.exchange_world.specs.Lanes as lanes
use Rattle.exchange_world.specs.Lanes.{content_len, records_in, behind_records}
use Rattle.exchange_world.specs.Steps.{pieces, sent_kind, with_items}
use Rattle.exchange_core.specs.declared.lane.Lane.{Lane}
use Rattle.exchange_core.specs.declared.sent.Sent.{Sent}
use Rattle.exchange_core.specs.Exchanges.{brought, world_lane, IsLaneOf}

-- The buffers of a record, in segments of a pool.
abbrev pub buffers : Pool → List ℕ → List Parcel
buffers pool text = map parcels.Data (pieces (size_of pool) (encoded text))

-- A buffer with these bytes was put behind all items of a channel, in a segment that its pool lent.
pub record HasPut (pool : Pool) (limit : ℕ) (before after : Lane) (bytes : List ℕ) : Type 0 where
  pub lane : IsLaneOf pool limit after
  pub put : world_lane after ≡ with_items (world_lane before) (parcels.Data bytes ∷ [])
  pub finished : after.finished ≡ before.finished
  pub lent : lent_of after.partition ≡ lent_of before.partition + 1
  pub more : length after.queue.items ≡ length before.queue.items + 1

-- A channel with a barrier that was put on it.
abbrev pub with_barrier : Lane → ℕ → BarrierKind → Lane
with_barrier lane k Inline = record lane { queue = queues.with_barrier lane.queue k; barriers = k }
with_barrier lane k Front = record lane { queue = with_front_barrier lane.queue k; barriers = k }

-- This is sent of an item.
pub record IsSent (p : Parcel) (sent : Sent) : Type 0 where
  pub kind_is : sent.kind ≡ sent_kind p
  pub brings : brought sent.what sent.content.items ≡ p
  pub len_is : sent.len ≡ content_len p

-- The first item was taken, and this is sent of it.
pub record HasTaken (before after : lanes.Lane) (sent : Sent) : Type 0 where
  pub first : Parcel
  pub items : before.items ≡ first ∷ after.items
  pub rest : after ≡ record before { items = after.items }
  pub is_sent : IsSent first sent

-- All whole records were read.
pub record HasRead (before after : List ℕ) (records : Items (Items ℕ)) : Type 0 where
  pub given : map (λ (r : Items ℕ). r.items) records.items ≡ records_in before
  pub left : after ≡ behind_records before

-- Each of these is a byte.
abbrev pub AreBytes : List ℕ → Type 0
AreBytes bytes = (k : ℕ) → k < length bytes → slice_index bytes k < 256
