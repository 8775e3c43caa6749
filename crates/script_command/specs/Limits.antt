-- The limit of a script's file. It is this project's own.
use Rattle.std.specs.Prelude.{ℕ}

-- A script has at most so many bytes: 16 MiB.
abbrev pub script_max : ℕ
script_max = 16777216
