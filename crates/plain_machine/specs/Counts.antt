-- How many images a run stores. Where the last checkpoint comes is this project's own choice, so their number is, too.
use Rattle.std.specs.Prelude.{ℕ, zero, suc, ◌+◌, ◌/◌, max, List, length, Option, Some, None}
use Rattle.flow_defs.specs.declared.job.Job.{Job}
use Rattle.flow_defs.specs.Jobs.{tasks}

-- The greatest of f 0, f 1 and so on, n numbers, and 0 where there are none.
abbrev pub most_below : ℕ → (ℕ → ℕ) → ℕ
most_below zero f = 0
most_below (suc n) f = max (most_below n f) (f n)

-- How many lines the longest source has.
abbrev pub most_lines : Job → (ℕ → List (List ℕ)) → ℕ
most_lines job lines = most_below (tasks job 0) (λ a. length (lines a))

-- How many images a chain from the start has once it is finished: with an interval one for each time that it goes into the lines of the
-- longest source, one at which all sources are ended, and the last one, and without an interval the last one alone.
abbrev pub images_to_end : Job → (ℕ → List (List ℕ)) → Option ℕ → ℕ
images_to_end job lines None = 1
images_to_end job lines (Some interval) = 2 + most_lines job lines / interval
