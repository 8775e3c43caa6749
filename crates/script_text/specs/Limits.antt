-- The limits of scripts, each number once. They are this project's own.
use Rattle.std.specs.Prelude.{ℕ}

-- A script opens at most so many channels. It opens at least one.
abbrev pub channels_max : ℕ
channels_max = 16

-- A text that is emitted has at most so many bytes.
abbrev pub text_max : ℕ
text_max = 4096
