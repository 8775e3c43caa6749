-- The rows of tables that are joined. This is this project's own choice.
use Rattle.std.specs.Prelude.{ℕ, List, map}
use denote.Ref.{Bor}
use Rattle.flow_defs.specs.declared.table.Row.{Row}
use Rattle.flow_defs.specs.Rows.{row_pair}

-- Rows that are lent, as pairs of a key and its value.
abbrev pub lent_pair : Bor Row → List ℕ × ℕ
lent_pair row = row_pair row.now

abbrev pub lent_pairs : List (Bor Row) → List (List ℕ × ℕ)
lent_pairs rows = map lent_pair rows
