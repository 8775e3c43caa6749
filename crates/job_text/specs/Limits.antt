-- The limits of numbers on a command line, and what a run has where it is given none, each once. They are this project's own.
use Rattle.std.specs.Prelude.{ℕ}

-- Between two checkpoints lie at most so many lines of a source: 2^40. There is at least one.
abbrev pub every_max : ℕ
every_max = 1099511627776

-- At most so many lines are generated.
abbrev pub lines_max : ℕ
lines_max = 2000000

-- A segment has so many bytes where no size is given.
abbrev pub usual_segment : ℕ
usual_segment = 32768

-- A pool has so many segments where no number is given.
abbrev pub usual_pool : ℕ
usual_pool = 2048
