-- What contracts say of a local pool that threads share; this project's own choice.
use Rattle.std.specs.Prelude.{◌≡◌, ℕ, List}
use Rattle.turn_cell.specs.Passes.{opened_with}
use Rattle.segment_pool.specs.declared.pool.Pool.{Pool}
use Rattle.segment_pool.specs.Passes.{number}
use Rattle.local_pool.specs.declared.local.LocalPool.{LocalPool}
use Rattle.local_pool.specs.declared.held.HeldPool.{HeldPool}
use Rattle.local_pool.specs.declared.entry.PoolEntry.{PoolEntry}
use Rattle.local_pool.specs.Lending.{PoolCell, lent_by}
use Rattle.local_pool.specs.Locals.{lent_of, limit_of, pass_of}

-- the global pool
abbrev pub pool_of : HeldPool → Pool
pool_of held = held.pool.now

-- the local pool of it
abbrev pub local_of : HeldPool → LocalPool
local_of held = held.local

-- how many it had lent when it was made
abbrev pub first_of : HeldPool → ℕ
first_of held = held.first

-- what of it never changes: the global pool, the number of the pass, the limit, and how many were lent at first
abbrev pub terms_of : HeldPool → Pool × ℕ × ℕ × ℕ
terms_of held = (pool_of held, number (pass_of (local_of held)), limit_of (local_of held), first_of held)

-- it has lent what this history says
abbrev pub HeldStandsFor : HeldPool → List (ℕ × PoolEntry) → Type 0
HeldStandsFor held history = lent_of (local_of held) ≡ lent_by held history

-- and it is that of this cell
abbrev pub StandsIn : PoolCell → List (ℕ × PoolEntry) → HeldPool → Type 0
StandsIn cell history held = HeldStandsFor held history × (terms_of held ≡ terms_of (opened_with cell))
