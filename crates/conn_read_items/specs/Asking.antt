-- Which pools the loop that reads items asks for floating segments, and what becomes of them. That each gate has a pool of floating
-- buffers for its channels is as in Flink's network stack; the loop is this project's own choice.
use Rattle.std.specs.Prelude.{◌≡◌, ◌≢◌, ℕ, suc, ◌+◌, ◌==◌, if◌then◌else◌, List, [], ◌∷◌, ◌++◌, count_by}
use Rattle.flow_defs.specs.declared.task.ChannelId.{ChannelId}
use Rattle.input_channel.specs.declared.entry.ReceiveEntry.{ReceiveEntry}
use Rattle.input_channel.specs.Legal.{is_added}
use Rattle.local_pool.specs.declared.entry.PoolEntry.{PoolEntry}
use Rattle.local_pool.specs.Lending.{PoolPass, is_lent, is_returned}
use Rattle.conn_parts.specs.declared.share.SharePasses.{SharePasses}
use Rattle.conn_parts.specs.Shares.{mine_at, GrewAt}
use Rattle.conn_read_items.specs.Turning.{InputPass}

-- What counts for a receiving task of what counts on a channel: all, where the channel leads to it.
abbrev pub counts_to : ℕ → ChannelId → ℕ → ℕ
counts_to task channel n = if channel.to == task then n else 0

-- How many floating segments the pass at a place has added.
abbrev pub added_at : ℕ → List InputPass → ℕ
added_at k passes = count_by is_added (mine_at k passes)

-- How many were added to the channels of a receiving task. The passes of these channels stand at the places from k on.
abbrev pub added_to : ℕ → List ChannelId → ℕ → List InputPass → ℕ
added_to task [] k passes = 0
added_to task (c ∷ cs) k passes = counts_to task c (added_at k passes) + added_to task cs (suc k) passes

-- The pool of a task was asked: each segment that it lent was added to a channel of the task, or came back.
pub record AskedFor (channels : List ChannelId) (task : ℕ) (before after : SharePasses) : Type 0 where
  pub entries : List PoolEntry
  pub made : mine_at task after.pools.items ≡ mine_at task before.pools.items ++ entries
  pub added : ℕ
  pub given : added_to task channels 0 after.inputs.items ≡ added_to task channels 0 before.inputs.items + added
  pub each : count_by is_lent entries ≡ count_by is_returned entries + added

-- So it is for each task.
abbrev pub AskedForAll : List ChannelId → SharePasses → SharePasses → Type 0
AskedForAll channels before after = (task : ℕ) → AskedFor channels task before after

-- ---- one channel

-- The pool at a place was asked for a channel, whose pass had made these entries and has made these now.
pub record Asked (to : ℕ) (before after : List ReceiveEntry) (pools pools_after : List PoolPass) : Type 0 where
  pub entries : List PoolEntry
  pub made : GrewAt to entries pools pools_after
  pub added : ℕ
  pub given : count_by is_added after ≡ count_by is_added before + added
  pub each : count_by is_lent entries ≡ count_by is_returned entries + added

-- It was asked for the channel at a place, and for no other.
pub record AskedAt (place to : ℕ) (before after : SharePasses) : Type 0 where
  pub here : Asked to (mine_at place before.inputs.items) (mine_at place after.inputs.items) before.pools.items after.pools.items
  pub others : (j : ℕ) → j ≢ place → mine_at j after.inputs.items ≡ mine_at j before.inputs.items
