-- The segments that lie in a pool. Flink's documentation has one global pool for each task manager, with
-- all its segments made when it starts; the ranges and the limits of passes are this project's own.
use Rattle.std.specs.Prelude.{◌≡◌, ℕ, ◌+◌, ◌≤◌, ◌<◌, List, length, slice_index}
use Rattle.std.specs.List.{sum, sum_by, All}
use Rattle.turn_cell.specs.History.{by}
use Rattle.segment_pool.specs.declared.stock.Stock.{Stock}
use Rattle.segment_pool.specs.declared.stock.Terms.{Terms}
use Rattle.segment_pool.specs.declared.stock.Dealing.{Dealing}
use Rattle.flow_defs.specs.Limits.{segments_max, segment_min, segment_max}
use Rattle.segment_pool.specs.Counting.{is_claim, is_give, balance, lent_in}

-- A pool may have so many segments.
abbrev pub IsTotal : ℕ → Type 0
IsTotal total = (1 ≤ total) × (total ≤ segments_max)

-- A segment may have so many bytes.
abbrev pub IsSize : ℕ → Type 0
IsSize size = (segment_min ≤ size) × (size ≤ segment_max)

-- A pool may be opened on these terms.
abbrev pub AreLegal : Terms → Type 0
AreLegal terms = IsTotal terms.total × IsSize terms.size × (sum terms.limits.items ≤ terms.total)

-- A pass may have these entries: it has given no more than it claimed, and where there are limits it has
-- at most its own out.
abbrev pub IsWithin : List ℕ → ℕ → List Dealing → Type 0
IsWithin limits number entries =
    (sum_by is_give entries ≤ sum_by is_claim entries) × (0 < length limits → balance entries ≤ slice_index limits number)

-- The stock stands for this history: each pass kept to the rules, what is free and what is lent make
-- the total, each free segment has the size, and there is room for those that are lent.
pub record StockStandsFor (stock : Stock) (history : List (ℕ × Dealing)) : Type 0 where
  pub legal : AreLegal stock.terms
  pub within : (number : ℕ) → IsWithin stock.terms.limits.items number (by number history)
  pub count : length stock.free.items + lent_in history ≡ stock.terms.total
  pub sizes : All (λ segment. length segment ≡ stock.terms.size) stock.free.items
  pub room : stock.terms.total ≤ length stock.free.items + stock.free.room
