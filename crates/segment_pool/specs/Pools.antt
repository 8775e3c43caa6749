-- What contracts say of a pool. Its limits, which let each pass claim with no failure, are this project's
-- own choice.
use Rattle.std.specs.Prelude.{◌≡◌, ℕ, ◌+◌, ◌<◌, List, [], length, slice_index}
use mathlib.Core.Option.{some}
use lib.ListN.{get_elem?}
use Rattle.turn_cell.specs.Passes as cells
use Rattle.segment_pool.specs.declared.pool.Pool.{Pool}
use Rattle.segment_pool.specs.declared.pass.PoolPass.{PoolPass}
use Rattle.segment_pool.specs.declared.calls.Counts.{Counts}
use Rattle.segment_pool.specs.declared.stock.Dealing.{Dealing}
use Rattle.segment_pool.specs.Counting.{lent_in, free_in}
use Rattle.segment_pool.specs.Passes.{IsPassAt, number, seen, mine, out}

-- How many segments it has.
abbrev pub total_of : Pool → ℕ
total_of pool = pool.total

-- How many bytes each of them has.
abbrev pub size_of : Pool → ℕ
size_of pool = pool.size

-- How many segments each pass may have out. The list is empty where no pass has a limit.
abbrev pub limits_of : Pool → List ℕ
limits_of pool = (cells.opened_with pool.cell).terms.limits.items

-- How many passes it has.
abbrev pub passes_of : Pool → ℕ
passes_of pool = cells.passes_of pool.cell

-- It is a pass of this pool.
abbrev pub IsPassOf : Pool → PoolPass → Type 0
IsPassOf pool pass = IsPassAt pool.cell pass

-- Its passes have limits.
abbrev pub IsLimited : Pool → Type 0
IsLimited pool = 0 < length (limits_of pool)

-- The limit of a pass.
abbrev pub limit_of : Pool → PoolPass → ℕ
limit_of pool pass = slice_index (limits_of pool) (number pass)

-- Where its passes have limits, fewer segments than its own are out by this one.
abbrev pub IsBelowLimit : Pool → PoolPass → Type 0
IsBelowLimit pool pass = IsLimited pool → out pass < limit_of pool pass

-- They are passes of this pool, with the numbers from 0 on.
abbrev pub AreInOrder : Pool → List PoolPass → Type 0
AreInOrder pool passes = (k : ℕ) (pass : PoolPass) → get_elem? passes k ≡ some pass → IsPassOf pool pass × (number pass ≡ k)

-- They are all passes of this pool, in the order of their numbers.
abbrev pub AreAll : Pool → List PoolPass → Type 0
AreAll pool passes = (length passes ≡ passes_of pool) × AreInOrder pool passes

-- It has seen no turn, and has no entries.
abbrev pub IsFresh : PoolPass → Type 0
IsFresh pass = (seen pass ≡ []) × (mine pass ≡ [])

-- They are all passes of this pool, as they were made.
abbrev pub AreFresh : Pool → List PoolPass → Type 0
AreFresh pool passes = AreAll pool passes × ((k : ℕ) (pass : PoolPass) → get_elem? passes k ≡ some pass → IsFresh pass)

-- It was opened with so many segments, of this size, and with these limits.
abbrev pub IsOpened : ℕ → ℕ → List ℕ → Pool → Type 0
IsOpened total size limits pool = (total_of pool ≡ total) × (size_of pool ≡ size) × (limits_of pool ≡ limits)

-- These are the counts of the pool at the end of this history, and together its total.
pub record AreCounts (pool : Pool) (history : List (ℕ × Dealing)) (counts : Counts) : Type 0 where
  pub free : counts.free ≡ free_in (total_of pool) history
  pub lent : counts.lent ≡ lent_in history
  pub all : counts.free + counts.lent ≡ total_of pool
