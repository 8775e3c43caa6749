-- Where the segments are that a task's pool has lent its writer: given back, in a buffer that was put, or being filled. As in Flink a
-- buffer of a result partition goes on with its data, and what counts the segments of a writer is this project's own choice.
use Rattle.std.specs.Prelude.{◌≡◌, ℕ, ◌+◌, Bool, true, false, List, [], count_by, sum_by}
use Rattle.std.specs.Option.{option_map_or}
use Rattle.turn_cell.specs.Passes.{mine}
use Rattle.local_pool.specs.Lending.{PoolPass, lends, returns}
use Rattle.local_pool.specs.declared.entry.PoolEntry.{PoolEntry}
use Rattle.subpartition.specs.declared.entry.SendEntry.{SendEntry}
use Rattle.subpartition.specs.declared.entry.SendEntry.TheVariants.{Put, PutInline, PutFront, Finish, Take, Size}
use Rattle.record_writer.specs.declared.part.Part.{Part}
use Rattle.record_writer.specs.declared.supply.Supply.{Supply}
use Rattle.record_writer.specs.declared.channels.Channels.{Channels}
use Rattle.record_writer.specs.Writers.{SendPass, Writer}

-- Whether a buffer was put, and how many were.
abbrev pub is_buffer : SendEntry → Bool
is_buffer (Put bytes) = true
is_buffer (PutInline k) = false
is_buffer (PutFront k) = false
is_buffer Finish = false
is_buffer Take = false
is_buffer (Size n) = false

abbrev pub buffers_put : List SendEntry → ℕ
buffers_put own = count_by is_buffer own

abbrev pub all_put : List SendPass → ℕ
all_put passes = sum_by (λ (pass : SendPass). buffers_put (mine pass)) passes

-- How many segments are being filled: in one part one or none.
abbrev pub holds : Part → ℕ
holds part = option_map_or (λ (segment : List ℕ). 1) part.segment 0

abbrev pub all_held : List Part → ℕ
all_held parts = sum_by holds parts

-- The segments that are accounted for: those that were given back, those that went with a buffer, and those that are being filled.
abbrev pub accounted : List PoolEntry → ℕ → ℕ → ℕ
accounted lending put held = returns lending + put + held

-- None was lost: of the segments that the pool lent since, each is accounted for.
abbrev pub NoneLost : List PoolEntry → List PoolEntry → ℕ → ℕ → ℕ → ℕ → Type 0
NoneLost lending lending' put put' held held' = lends lending' + accounted lending put held ≡ lends lending + accounted lending' put' held'

-- A writer has lost none.
abbrev pub HasLostNone : Writer → Writer → Type 0
HasLostNone w w' = NoneLost w.lending w'.lending (all_put w.passes) (all_put w'.passes) w.held w'.held

-- ---- on one channel, and on all of them

-- The own entries of a supply's pass of its pool.
abbrev pub lending_of : Supply → List PoolEntry
lending_of supply = option_map_or (λ (pass : PoolPass). mine pass) supply.pool_pass []

-- None was lost while these entries were made, and the part that is being filled became this one.
abbrev pub NoneLostAt : Supply → Supply → List SendEntry → List SendEntry → Part → Part → Type 0
NoneLostAt supply supply' own own' part part' = NoneLost (lending_of supply) (lending_of supply') (buffers_put own) (buffers_put own') (holds part) (holds part')

-- None was lost on all channels together.
abbrev pub NoneLostOn : Supply → Supply → Channels → Channels → Type 0
NoneLostOn supply supply' channels channels' =
    NoneLost (lending_of supply) (lending_of supply') (all_put channels.passes.items) (all_put channels'.passes.items) (all_held channels.parts.items) (all_held channels'.parts.items)
