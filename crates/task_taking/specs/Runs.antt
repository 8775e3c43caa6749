-- Runs under way. That a task notes its takes as runs of one sender after another is this project's own choice.
use Rattle.std.specs.Prelude.{ℕ, ◌+◌, ◌^◌, ◌<◌, List, [], ◌∷◌}
use Rattle.flow_defs.specs.Items.{Items}
use Rattle.flow_defs.specs.declared.image.TakeRun.{TakeRun}

-- How many records the last run takes. Without a run it is 0.
abbrev pub last_count : List TakeRun → ℕ
last_count [] = 0
last_count (run ∷ []) = run.count
last_count (run ∷ other ∷ runs) = last_count (other ∷ runs)

-- One more take can be noted: there is room for one more run, and the last one can grow.
pub record CanNote (runs : Items TakeRun) : Type 0 where
  pub has_room : 0 < runs.room
  pub grows : last_count runs.items + 1 < 2 ^ 64
