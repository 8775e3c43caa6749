-- How the rows of tables are gathered, table by table.
use Rattle.std.proofs.Common.{◌≡◌, ℕ, ◌+◌, ◌<◌, List, [], ◌∷◌, ◌++◌, length, take, get_or, sym, ap, ◌∙◌, append-nil}
use Rattle.std.specs.FinMap.{entries}
use Rattle.std.specs.List.{flat_map}
use Rattle.std.proofs.lemmas.Grind.{flat_map-append}
use Rattle.std.proofs.lemmas.List.{take_more}
use Rattle.std.proofs.lemmas.List.Concat.{flat_map-cons}
use Rattle.flow_defs.specs.Tables.{Values}

-- All rows of these tables.
abbrev pub rows_in : List Values → List (List ℕ × ℕ)
rows_in tables = flat_map entries tables

rows-push : (tables : List Values) (table : Values) → rows_in (tables ++ table ∷ []) ≡ rows_in tables ++ entries table
rows-push tables table =
    flat_map-append entries tables (table ∷ [])
    ∙ ap (λ (l : List (List ℕ × ℕ)). flat_map entries tables ++ l) (flat_map-cons entries table [] ∙ append-nil (entries table))

-- One more table.
pub tables_more : (tables : List Values) (i : ℕ) (table : Values) → i < length tables → table ≡ get_or tables i table →
    rows_in (take (i + 1) tables) ≡ rows_in (take i tables) ++ entries table
tables_more tables i table within is =
    ap rows_in (take_more tables i table within)
    ∙ rows-push (take i tables) (get_or tables i table)
    ∙ ap (λ (t : Values). rows_in (take i tables) ++ entries t) (sym is)
