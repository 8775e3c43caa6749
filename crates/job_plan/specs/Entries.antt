-- The entries of std's maps from records to counts.
use Rattle.std.specs.Prelude.{ℕ, List, map}
use Rattle.std.specs.FinMap.{from_entries}
use Rattle.flow_defs.specs.Items.{Items}
use Rattle.flow_defs.specs.Tables.{Values}

-- An entry as the pair of its bytes and its count.
abbrev pub entry_pair : Items ℕ × ℕ → List ℕ × ℕ
entry_pair entry = (entry.0.items, entry.1)

abbrev pub entry_pairs : List (Items ℕ × ℕ) → List (List ℕ × ℕ)
entry_pairs entries = map entry_pair entries

-- The finite map from the bytes of the keys to the counts.
abbrev pub entry_values : List (Items ℕ × ℕ) → Values
entry_values entries = from_entries (entry_pairs entries)
