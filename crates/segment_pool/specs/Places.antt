-- A pool's passes as they are made of those of its cell, and gathered again.
use Rattle.std.specs.Prelude.{◌≡◌, ℕ, ◌≤◌, List, length, map}
use mathlib.Core.Option.{some}
use lib.ListN.{get_elem?}
use Rattle.turn_cell.specs.declared.pass.Pass.{Pass}
use Rattle.segment_pool.specs.declared.pass.PoolPass.{PoolPass}
use Rattle.segment_pool.specs.declared.stock.Stock.{Stock}
use Rattle.segment_pool.specs.declared.stock.Terms.{Terms}
use Rattle.segment_pool.specs.declared.stock.Dealing.{Dealing}

-- The passes of the cell in these passes, in order.
abbrev pub inner : List PoolPass → List (Pass Stock Dealing Terms)
inner passes = map (λ pass. pass.pass) passes

-- It has nothing out, and has taken no places.
abbrev pub IsNew : PoolPass → Type 0
IsNew pass = (pass.held ≡ 0) × (length pass.places.items ≡ 0)

-- The first of these passes has so many places.
abbrev pub FirstHasPlaces : ℕ → List PoolPass → Type 0
FirstHasPlaces n passes = (pass : PoolPass) → get_elem? passes 0 ≡ some pass → n ≤ pass.places.room
