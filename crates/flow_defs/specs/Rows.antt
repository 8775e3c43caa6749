-- The rows of a table in memory.
use Rattle.std.specs.Prelude.{ℕ, List, map, IsTrue}
use Rattle.std.specs.FinMap.{is_sorted}
use Rattle.std.specs.List.{IsDistinct}
use Rattle.std.specs.Map.{keys_of}
use Rattle.std.specs.Ordering.{eq_by_cmp}
use Rattle.flow_defs.specs.declared.table.Row.{Row}
use Rattle.flow_defs.specs.Tables.{key_cmp}

-- A row as the pair of its key and its value.
abbrev pub row_pair : Row → List ℕ × ℕ
row_pair row = (row.key.items, row.value)

abbrev pub row_pairs : List Row → List (List ℕ × ℕ)
row_pairs rows = map row_pair rows

-- The keys rise, so that no key comes twice.
abbrev pub IsSortedByKeys : List (List ℕ × ℕ) → Type 0
IsSortedByKeys rows = IsTrue (is_sorted key_cmp rows)

-- No key comes twice, wherever the rows stand.
abbrev pub HasDistinctKeys : List (List ℕ × ℕ) → Type 0
HasDistinctKeys rows = IsDistinct (eq_by_cmp key_cmp) (keys_of rows)
