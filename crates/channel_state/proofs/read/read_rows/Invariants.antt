use Rattle.std.proofs.Common.{◌≡◌, ℕ, List, true, Less}
use Rattle.std.specs.Prelude.{option_map}
use Rattle.std.specs.List.{AllByRecursion}
use Rattle.std.specs.FinMap.{entries}
use Rattle.flow_defs.specs.Tables.{key_cmp}
use Rattle.channel_state.specs.ImageFaults.{is_key}
use Rattle.channel_state.specs.Building.{IsBytes, AreRows}
use Rattle.channel_state.proofs.read.read_rows.Given as goal

-- and a key that may follow is above all of the rows
abbrev pub invariant-loop-i : goal.invariant-loop-i
invariant-loop-i l = record {
  read : IsBytes l.fn.cursor.rest.now → AreRows l._i l.fn.cursor.rest.now l.cursor.rest.now l.table;
  above : (key : List ℕ) → is_key (option_map (λ key. key.now) l.before) key ≡ true → AllByRecursion (λ (row : List ℕ × ℕ). key_cmp row.0 key ≡ Less) (entries l.table);
}
