-- What a pass knows after a turn at its pool.
use Rattle.std.specs.Prelude.{◌≡◌, ℕ, List, ◌++◌, map}
use Rattle.turn_cell.specs.declared.pass.Pass.{Pass}
use Rattle.turn_cell.specs.History.{StartsWith}
use Rattle.turn_cell.specs.Passes.{number, seen, mine}
use Rattle.segment_pool.specs.declared.pass.PoolPass.{PoolPass}
use Rattle.segment_pool.specs.declared.stock.Stock.{Stock}
use Rattle.segment_pool.specs.declared.stock.Terms.{Terms}
use Rattle.segment_pool.specs.declared.stock.Dealing.{Dealing}

-- A pass of the cell took a turn in which it made these entries, and before which this was true of the
-- history.
pub record HasTurned (entries : List Dealing) (before after : Pass Stock Dealing Terms) (IsTrueOf : List (ℕ × Dealing) → Type 0) : Type 0 where
  -- the history at the turn, which begins with what the pass had seen
  pub history : List (ℕ × Dealing)
  pub later : StartsWith history (seen before)
  pub fact : IsTrueOf history
  -- it is the same pass, and has seen its turn
  pub same_number : number after ≡ number before
  pub then_seen : seen after ≡ history ++ map (λ entry. (number before, entry)) entries
  pub then_mine : mine after ≡ mine before ++ entries

-- The same of a pool's pass.
abbrev pub TookTurn : List Dealing → PoolPass → PoolPass → (List (ℕ × Dealing) → Type 0) → Type 0
TookTurn entries before after IsTrueOf = HasTurned entries before.pass after.pass IsTrueOf
