-- A line that has begun.
use Rattle.std.specs.Prelude.{◌≡◌, ℕ, List, ◌++◌}
use Rattle.flow_defs.specs.Lines.{lines, onto_first_line}

-- The bytes belong to one line, which goes on behind them.
abbrev pub IsBegun : List ℕ → Type 0
IsBegun line = (more : List ℕ) → lines (line ++ more) ≡ onto_first_line line (lines more)
