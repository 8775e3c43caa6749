-- Emitting: a task sends its records, one after another, each to the task to which it is routed. As in
-- Flink each channel keeps the order in which its records were sent.
use Rattle.std.specs.Prelude.{ℕ, suc, ◌+◌, ◌%◌, ◌^◌, ◌==◌, List, [], ◌∷◌, slice_get, if◌then◌else◌}
use Rattle.std.specs.Option.{option_map_or}
use Rattle.flow_defs.specs.declared.job.Job.{Job}
use Rattle.flow_defs.specs.declared.job.Stage.{Stage}
use Rattle.flow_defs.specs.Jobs.{tasks, exchange, key_on}
use Rattle.flow_defs.specs.Routes.{receiver}
use Rattle.flow_defs.specs.Stages.{apply}

-- The task to which task a of stage e sends a record over edge e, when it has emitted n records before.
abbrev pub receiver_on : Job → ℕ → ℕ → ℕ → List ℕ → ℕ
receiver_on job e a n r = receiver (exchange job e) (key_on job e r) n a (tasks job (suc e))

-- The count of records emitted, after one more.
abbrev pub next_count : ℕ → ℕ
next_count n = (n + 1) % 2 ^ 64

-- And after several more.
abbrev pub count_after : ℕ → List (List ℕ) → ℕ
count_after n [] = n
count_after n (r ∷ records) = count_after (next_count n) records

-- Of records that are emitted from the count n on, each to the task that `to` says, those that come to task b.
abbrev pub emit : (ℕ → List ℕ → ℕ) → ℕ → List (List ℕ) → ℕ → List (List ℕ)
emit to n [] b = []
emit to n (r ∷ records) b = if to n r == b then r ∷ emit to (next_count n) records b else emit to (next_count n) records b

-- What a task of the stateless stage behind edge e emits for a record that it takes.
abbrev pub apply_behind : Job → ℕ → List ℕ → List (List ℕ)
apply_behind job e r = option_map_or (λ (s : Stage). apply s r) (slice_get job.stages.items e) []
