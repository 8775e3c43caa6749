-- What is lent of a local pool that threads share, by the history of its cell. In Flink's documentation a buffer is requested from its pool and recycled to it; the history is this project's own choice.
use Rattle.std.specs.Prelude.{ℕ, suc, ◌-◌, Bool, true, false, List, [], ◌∷◌, Option, Some, None, count_by}
use Rattle.turn_cell.specs.declared.cell.TurnCell.{TurnCell}
use Rattle.turn_cell.specs.declared.pass.Pass.{Pass}
use Rattle.turn_cell.specs.History.{entries_of}
use Rattle.segment_pool.specs.declared.pool.Pool.{Pool}
use Rattle.local_pool.specs.declared.held.HeldPool.{HeldPool}
use Rattle.local_pool.specs.declared.entry.PoolEntry.{PoolEntry}
use Rattle.local_pool.specs.declared.entry.PoolEntry.TheVariants.{Lent, Returned}

-- the cell of a local pool, and a pass of it
abbrev pub PoolCell : Type 0
PoolCell = TurnCell HeldPool PoolEntry (Pool × ℕ × ℕ × ℕ)

abbrev pub PoolPass : Type 0
PoolPass = Pass HeldPool PoolEntry (Pool × ℕ × ℕ × ℕ)

-- How many are lent after these entries, where so many were before them. A segment that is given back while none is lent changes nothing
abbrev pub lent_after : ℕ → List PoolEntry → ℕ
lent_after lent [] = lent
lent_after lent (Lent ∷ entries) = lent_after (suc lent) entries
lent_after lent (Returned ∷ entries) = lent_after (lent - 1) entries

-- how many are lent of it after this history
abbrev pub lent_by : HeldPool → List (ℕ × PoolEntry) → ℕ
lent_by held history = lent_after held.first (entries_of history)

-- the entries of a turn that asks for a segment: one where it got one, else none
abbrev pub lent_in_turn : {A : Type 0} → Option A → List PoolEntry
lent_in_turn None = []
lent_in_turn (Some segment) = Lent ∷ []

-- whether the pool lent a segment, or got one back
abbrev pub is_lent : PoolEntry → Bool
is_lent Lent = true
is_lent Returned = false

abbrev pub is_returned : PoolEntry → Bool
is_returned Lent = false
is_returned Returned = true

-- how many segments it lent by these entries, and how many it got back
abbrev pub lends : List PoolEntry → ℕ
lends es = count_by is_lent es

abbrev pub returns : List PoolEntry → ℕ
returns es = count_by is_returned es
