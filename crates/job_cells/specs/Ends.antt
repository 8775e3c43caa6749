-- The cells at both ends of an edge and their passes, as they are made one by one. This is this project's own choice.
use Rattle.std.specs.Prelude.{◌≡◌, ℕ, ◌+◌, ◌*◌, ◌<◌, ◌≤◌, List, [], ◌∷◌, ◌++◌, length, slice_get, slice_set, Some, All}
use Rattle.turn_cell.specs.declared.cell.TurnCell.{TurnCell}
use Rattle.turn_cell.specs.Passes.{IsPassOf, number, mine, opened_with}
use Rattle.flow_defs.specs.Items.{Items}
use Rattle.segment_pool.specs.declared.pool.Pool.{Pool}
use Rattle.local_pool.specs.declared.local.LocalPool.{LocalPool}
use Rattle.local_pool.specs.Helds.{local_of, pool_of}
use Rattle.subpartition.specs.Queues.{Queue, empty_queue}
use Rattle.input_channel.specs.States.{ChannelState, opening}
use Rattle.input_channel.specs.declared.entry.ReceiveEntry.{ReceiveEntry}
use Rattle.record_writer.specs.Writers.{PoolCell, SendCell, SendPass, place_of}
use Rattle.conn_parts.specs.Shares.{AreOf, HavePoolSize}
use Rattle.job_cells.specs.declared.pool_cells.PoolCells.{PoolCells}
use Rattle.job_cells.specs.declared.gates.Gates.{Gates}
use Rattle.job_cells.specs.declared.partitions.Partitions.{Partitions}
use Rattle.job_cells.specs.Edges.{InputPass, AreGatesAt, buffers_room, items_room}
use Rattle.job_cells.specs.Groups.{AreDealt, HasMore}

-- ---- local pools

-- Each has segments of this size, and there is a pass of a task and one of a loop for each.
pub record ArePools (size : ℕ) (pools : PoolCells) : Type 0 where
  pub sizes : HavePoolSize size pools.cells.items
  pub tasks : AreOf pools.cells.items pools.tasks.items
  pub loops : AreOf pools.cells.items pools.loops.items

-- A cell was added, which was made with this local pool of this pool.
pub record HasPool (pool : Pool) (local : LocalPool) (before after : PoolCells) : Type 0 where
  pub cell : PoolCell
  pub is : after.cells.items ≡ before.cells.items ++ cell ∷ []
  pub of_pool : pool_of (opened_with cell) ≡ pool
  pub local_is : local_of (opened_with cell) ≡ local

-- ---- the sending end

-- A pass of the cell of channel c of task a, where so many tasks send.
pub record IsWay (cells : List SendCell) (many a c : ℕ) (pass : SendPass) : Type 0 where
  pub cell : SendCell
  pub stands : slice_get cells (place_of a many c) ≡ Some cell
  pub of_cell : IsPassOf cell pass
  pub number_is : number pass ≡ 0
  pub new : mine pass ≡ []

-- Of so many sending tasks those before task a have a channel more than the first c, and the others have these.
pub record AreSent (many c a size : ℕ) (ends : Partitions) : Type 0 where
  pub dealt : AreDealt ends.group
  pub cells : length ends.group.cells.items ≡ c * many + a
  pub opened : All (λ (cell : SendCell). opened_with cell ≡ empty_queue size items_room) ends.group.cells.items
  pub lists : length ends.senders.items ≡ many
  pub before : (k : ℕ) (own : Items SendPass) → k < a → slice_get ends.senders.items k ≡ Some own → length own.items ≡ c + 1
  pub behind : (k : ℕ) (own : Items SendPass) → a ≤ k → slice_get ends.senders.items k ≡ Some own → length own.items ≡ c
  pub each : (k : ℕ) (own : Items SendPass) → slice_get ends.senders.items k ≡ Some own →
      (i : ℕ) (pass : SendPass) → slice_get own.items i ≡ Some pass → IsWay ends.group.cells.items many k i pass

-- Task a got a further channel.
pub record HasWay (a size : ℕ) (before after : Partitions) : Type 0 where
  pub pass : SendPass
  pub own : Items SendPass
  pub longer : Items SendPass
  pub more : HasMore (empty_queue size items_room) before.group.cells.items after.group.cells.items pass
  pub stood : slice_get before.senders.items a ≡ Some own
  pub pushed : longer.items ≡ own.items ++ pass ∷ []
  pub set_is : after.senders.items ≡ slice_set before.senders.items a longer

-- ---- the receiving end

abbrev pub InputCell : Type 0
InputCell = TurnCell ChannelState ReceiveEntry ℕ

-- Each was made with a channel whose two exclusive buffers have this size.
abbrev pub AreInputs : ℕ → List InputCell → Type 0
AreInputs size cells = All (λ (cell : InputCell). opened_with cell ≡ opening size buffers_room) cells

-- So many cells were added, and these are a gate's passes of them.
pub record HasGate (many : ℕ) (before after : List InputCell) (own : List InputPass) : Type 0 where
  pub more : List InputCell
  pub is : after ≡ before ++ more
  pub many_are : length more ≡ many
  pub gate : AreGatesAt after (length before) many own

-- The gates of so many tasks, of so many channels each.
pub record AreGates (many ways size : ℕ) (ends : Gates) : Type 0 where
  pub dealt : AreDealt ends.group
  pub cells : length ends.group.cells.items ≡ many * ways
  pub opened : AreInputs size ends.group.cells.items
  pub lists : length ends.passes.items ≡ many
  pub each : (b : ℕ) (own : Items InputPass) → slice_get ends.passes.items b ≡ Some own → AreGatesAt ends.group.cells.items (b * ways) ways own.items
  pub pools : ArePools size ends.pools
  pub pools_many : length ends.pools.cells.items ≡ many
