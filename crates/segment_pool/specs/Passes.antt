-- What contracts say of a pool's passes. Passes, their numbers and their entries are those of the pool's
-- turn cell; they are this project's own choice.
use Rattle.std.specs.Prelude.{◌≡◌, ℕ, ◌≤◌, List, length}
use Rattle.turn_cell.specs.declared.cell.TurnCell.{TurnCell}
use Rattle.turn_cell.specs.Passes as cells
use Rattle.segment_pool.specs.declared.pass.PoolPass.{PoolPass}
use Rattle.segment_pool.specs.declared.stock.Stock.{Stock}
use Rattle.segment_pool.specs.declared.stock.Terms.{Terms}
use Rattle.segment_pool.specs.declared.stock.Dealing.{Dealing}
use Rattle.segment_pool.specs.Counting.{balance}

-- Its place in the list that was made with the pool.
abbrev pub number : PoolPass → ℕ
number pass = cells.number pass.pass

-- The pool's history as it was when the pass saw it last.
abbrev pub seen : PoolPass → List (ℕ × Dealing)
seen pass = cells.seen pass.pass

-- Its own entries, in order.
abbrev pub mine : PoolPass → List Dealing
mine pass = cells.mine pass.pass

-- How many segments it has claimed and not given.
abbrev pub out : PoolPass → ℕ
out pass = balance (mine pass)

-- It has taken no place for passes, and the first pass has one for each pass of the cell.
abbrev pub HasPlaces : TurnCell Stock Dealing Terms → PoolPass → Type 0
HasPlaces cell pass = (length pass.places.items ≡ 0) × (number pass ≡ 0 → cells.passes_of cell ≤ pass.places.room)

-- It is a pass of the pool in this cell, and has counted right what it has out.
abbrev pub IsPassAt : TurnCell Stock Dealing Terms → PoolPass → Type 0
IsPassAt cell pass = cells.IsPassOf cell pass.pass × (pass.held ≡ out pass) × HasPlaces cell pass
