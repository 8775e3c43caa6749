-- What bounds the sizes of an image. An image counts the keys of a table, the runs of a task and the bytes of a saved piece in four bytes
-- each. How many there can be is known before a run, from the lines and the job. The load is this project's own notion.
use Rattle.std.specs.Prelude.{ℕ, suc, ◌+◌, ◌<◌, ◌≤◌, List, length}
use Rattle.std.specs.FinMap.{entries}
use Rattle.flow_defs.specs.declared.job.Job.{Job}
use Rattle.flow_defs.specs.Jobs.{last_edge, tasks}
use Rattle.plain_machine.specs.Cuts.{Cut, start}
use Rattle.plain_machine.specs.Worth.{load}

-- An image counts at most so many of each: 2^32 - 1.
abbrev pub count_max : ℕ
count_max = 4294967295

-- The keys of a table at the cut and the load of some edge from there on are together above `count_max`.
pub record IsOverloaded (job : Job) (lines : ℕ → List (List ℕ)) (cut : Cut) : Type 0 where
  pub table : ℕ
  pub is_table : table < tasks job (suc (last_edge job))
  pub edge : ℕ
  pub is_edge : edge ≤ last_edge job
  pub over : count_max < length (entries (cut.tables table)) + load job lines cut edge

-- At the start, where no table has a key: the load of some edge is above `count_max`.
pub record HasHeavyEdge (job : Job) (lines : ℕ → List (List ℕ)) : Type 0 where
  pub edge : ℕ
  pub is_edge : edge ≤ last_edge job
  pub over : count_max < load job lines start edge
