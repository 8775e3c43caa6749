-- What the loop that writes items gives back to the local pools of the tasks that send. That the segment of a buffer goes back to its
-- pool once it was sent is as in Flink's network stack; the loop is this project's own choice.
use Rattle.std.specs.Prelude.{◌≡◌, ℕ, suc, ◌+◌, ◌==◌, if◌then◌else◌, List, [], ◌∷◌, ◌++◌, count_by, replicate}
use Rattle.flow_defs.specs.declared.task.ChannelId.{ChannelId}
use Rattle.flow_defs.specs.Parcels.{is_data}
use Rattle.local_pool.specs.declared.entry.PoolEntry.{PoolEntry}
use Rattle.local_pool.specs.declared.entry.PoolEntry.TheVariants.{Returned}
use Rattle.local_pool.specs.Lending.{PoolPass}
use Rattle.subpartition.specs.declared.item.Item.{Item}
use Rattle.subpartition.specs.declared.item.Item.TheVariants.{Buffer, Barrier, End}
use Rattle.subpartition.specs.Queues.{parcel_of}
use Rattle.conn_parts.specs.declared.share.SharePasses.{SharePasses}
use Rattle.conn_parts.specs.Shares.{mine_at, seen_at}
use Rattle.conn_send_items.specs.declared.cells.SendPasses.{SendPasses}
use Rattle.conn_send_items.specs.Fronts.{SendPass, taken_in, OthersStay}

-- What counts for a sending task of what counts on a channel: all, where the channel is its own.
abbrev pub counts_for : ℕ → ChannelId → ℕ → ℕ
counts_for task channel n = if channel.from == task then n else 0

-- How many data buffers were taken at a place.
abbrev pub data_at : ℕ → List SendPass → ℕ
data_at k passes = count_by is_data (taken_in (seen_at k passes))

-- How many were taken on the channels of a sending task. The passes of these channels stand at the places from k on.
abbrev pub data_from : ℕ → List ChannelId → ℕ → List SendPass → ℕ
data_from task [] k passes = 0
data_from task (c ∷ cs) k passes = counts_for task c (data_at k passes) + data_from task cs (suc k) passes

module _ (channels : List ChannelId) where
  -- The task's pool got so many segments back, and as many data buffers were taken on the task's channels.
  pub record GaveBack (task : ℕ) (before after : List SendPass) (pools pools_after : List PoolPass) : Type 0 where
    pub many : ℕ
    pub returned : mine_at task pools_after ≡ mine_at task pools ++ replicate many Returned
    pub taken : data_from task channels 0 after ≡ data_from task channels 0 before + many

  -- So it is for each task.
  abbrev pub GivesAllBack : SharePasses → SharePasses → Type 0
  GivesAllBack before after = (task : ℕ) → GaveBack task before.subpartitions.items after.subpartitions.items before.pools.items after.pools.items

  -- The same of the passes that the loop's steps have.
  abbrev pub Gives : SendPasses → SendPasses → Type 0
  Gives before after = (task : ℕ) → GaveBack task before.subpartitions.items after.subpartitions.items before.pools.items after.pools.items

-- ---- one item

-- It was taken at a place, and nothing at the others.
pub record TookOne (place : ℕ) (item : Item) (before after : List SendPass) : Type 0 where
  pub here : taken_in (seen_at place after) ≡ taken_in (seen_at place before) ++ parcel_of item ∷ []
  pub others : OthersStay place before after

-- What the pool is told once it was sent.
abbrev pub returned_of : Item → List PoolEntry
returned_of (Buffer filled) = Returned ∷ []
returned_of (Barrier k kind) = []
returned_of End = []
