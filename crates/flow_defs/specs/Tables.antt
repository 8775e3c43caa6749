-- Tables: what an aggregate keeps, a value for each key. The order of the keys and the printed form
-- are this project's own.
use Rattle.std.specs.Prelude.{ℕ, List, [], ◌∷◌, ◌++◌, flat_map, unwrap_or, decimal}
use Rattle.std.specs.declared.cmp.Ordering.{Ordering}
use Rattle.std.specs.Ordering.{nat_cmp}
use Rattle.std.specs.Cmp.Lexicographic.{slice_cmp}
use Rattle.std.specs.FinMap.{FinMap, entries, get, insert, empty}
use Rattle.flow_defs.specs.declared.job.AggKind.{AggKind}
use Rattle.flow_defs.specs.Aggregates.{key_of, value_of, folded}

-- Keys are compared byte by byte.
abbrev pub key_cmp : List ℕ → List ℕ → Ordering
key_cmp = slice_cmp nat_cmp

-- From keys, in byte order, to values.
abbrev pub Values : Type 0
Values = FinMap key_cmp ℕ

-- The table with one more value of a key, which is folded onto the one that it has, or onto 0.
abbrev pub add_value : AggKind → Values → List ℕ × ℕ → Values
add_value agg table row = insert table row.0 (folded agg (unwrap_or (get table row.0) 0) row.1)

-- The table with more values of keys, one after another.
abbrev pub add_values : AggKind → Values → List (List ℕ × ℕ) → Values
add_values agg table [] = table
add_values agg table (row ∷ rows) = add_values agg (add_value agg table row) rows

-- A record as its key and its value.
abbrev pub row_of : AggKind → List ℕ → List ℕ × ℕ
row_of agg r = (key_of agg r, value_of agg r)

-- The table with one more record.
abbrev pub add : AggKind → Values → List ℕ → Values
add agg table r = add_value agg table (row_of agg r)

-- The table with these records added, one after another.
abbrev pub add_all : AggKind → Values → List (List ℕ) → Values
add_all agg table [] = table
add_all agg table (r ∷ records) = add_all agg (add agg table r) records

-- The table of these records.
abbrev pub table_of : AggKind → List (List ℕ) → Values
table_of agg records = add_all agg empty records

-- Each key of any of the tables, with the fold of its values.
abbrev pub join : AggKind → List Values → Values
join agg tables = add_values agg empty (flat_map entries tables)

-- A row as it is printed: key, tab, value in decimal, newline.
abbrev pub row_text : List ℕ × ℕ → List ℕ
row_text row = row.0 ++ 9 ∷ decimal row.1 ++ 10 ∷ []

-- A table as it is printed: its rows in the byte order of the keys.
abbrev pub table_text : Values → List ℕ
table_text table = flat_map row_text (entries table)
