-- Cuts of a job. As in FLIP-76 the state of a job is the states of all its tasks together with the data
-- in flight between them. A cut is consistent where what is in flight was sent before it and is taken
-- behind it.
use Rattle.std.specs.Prelude.{◌≡◌, ℕ, suc, ◌<◌, ◌≤◌, true, List, []}
use Rattle.std.specs.FinMap.{empty}
use Rattle.flow_defs.specs.declared.job.Job.{Job}
use Rattle.flow_defs.specs.Jobs.{last_edge, tasks, is_channel}
use Rattle.flow_defs.specs.Tables.{Values}

-- Where a job stands at a checkpoint.
pub record Cut : Type 0 where
  -- how many lines each source has read
  pub offsets : ℕ → ℕ
  -- how many records each task of the sources and stages has emitted, by stage and index
  pub emitted : ℕ → ℕ → ℕ
  -- what each aggregate task has counted
  pub tables : ℕ → Values
  -- the records in flight on each channel, by edge, sending task and receiving task
  pub flight : ℕ → ℕ → ℕ → List (List ℕ)

-- Where each job stands before its first line: nothing read, nothing emitted, nothing counted, nothing in flight.
abbrev pub start : Cut
start = record { offsets = λ a. 0; emitted = λ i a. 0; tables = λ b. empty; flight = λ e a b. [] }

-- Two cuts are the same for a job: they agree at each of its tasks and channels.
pub record SameCut (job : Job) (c d : Cut) : Type 0 where
  pub offsets : (a : ℕ) → a < tasks job 0 → c.offsets a ≡ d.offsets a
  pub emitted : (i a : ℕ) → i ≤ last_edge job → a < tasks job i → c.emitted i a ≡ d.emitted i a
  pub tables : (b : ℕ) → b < tasks job (suc (last_edge job)) → c.tables b ≡ d.tables b
  pub flight : (e a b : ℕ) → is_channel job e a b ≡ true → c.flight e a b ≡ d.flight e a b
