-- A step of the plain machine: what a job does from one checkpoint to the next, on whole lists and
-- stage by stage. It has no buffers, credit, barriers or threads, and no order between tasks. This is
-- the consistent cut of FLIP-76 as this project states it: the next cut is the one that all tasks
-- reach from the last one by what they take.
use Rattle.std.specs.Prelude.{ℕ, zero, suc, ◌<◌, ◌≤◌, List, [], ◌++◌, length, slice_range, flat_map, if◌then◌else◌}
use Rattle.flow_defs.specs.declared.job.Job.{Job}
use Rattle.flow_defs.specs.declared.image.TakeRun.{TakeRun}
use Rattle.flow_defs.specs.Jobs.{last_edge, tasks, is_channel}
use Rattle.flow_defs.specs.Tables.{add_all}
use Rattle.plain_machine.specs.Cuts.{Cut}
use Rattle.plain_machine.specs.Emitting.{receiver_on, count_after, emit, apply_behind}
use Rattle.plain_machine.specs.Weaving.{woven, rests, CanWeave}

-- The records, where this is a channel. Elsewhere there are none, so that no law has to ask which channels
-- takes name.
abbrev pub on_channel : Job → ℕ → ℕ → ℕ → List (List ℕ) → List (List ℕ)
on_channel job e a b records = if is_channel job e a b then records else []

-- No source goes back.
abbrev pub Rises : Job → (ℕ → ℕ) → (ℕ → ℕ) → Type 0
Rises job old new = (a : ℕ) → a < tasks job 0 → old a ≤ new a

-- The step depends on the lines of each source, on the cut before, on what each task takes (by stage
-- and index), and on the offset up to which each source reads.
module _ (job : Job) (lines : ℕ → List (List ℕ)) (cut : Cut) (takes : ℕ → ℕ → List TakeRun) (offsets : ℕ → ℕ) where
  -- What is there for task b behind edge e to take from sender a, when each sender emits these
  -- records: what was in flight, and then what this step adds.
  abbrev pub avail : ℕ → ℕ → (ℕ → List (List ℕ)) → ℕ → List (List ℕ)
  avail e b emits a = on_channel job e a b (cut.flight e a b ++ emit (receiver_on job e a) (cut.emitted e a) (emits a) b)

  -- The records that task a of stage e emits: a source its lines between the offsets, and another task
  -- what its stage makes of the records that it takes.
  abbrev pub sent : ℕ → ℕ → List (List ℕ)
  sent zero a = slice_range (lines a) (cut.offsets a) (offsets a)
  sent (suc e) b = flat_map (apply_behind job e) (woven (takes (suc e) b) (avail e b (sent e)))

  -- The records that task b behind edge e takes.
  abbrev pub taken : ℕ → ℕ → List (List ℕ)
  taken e b = woven (takes (suc e) b) (avail e b (sent e))

  -- The records that it leaves on the channel from sender a.
  abbrev pub left : ℕ → ℕ → ℕ → List (List ℕ)
  left e a b = rests (takes (suc e) b) (avail e b (sent e)) a

  -- The step is defined: no source goes back or past its end, and no task asks for more than there is.
  pub record IsStep : Type 0 where
    pub rise : Rises job cut.offsets offsets
    pub within : (a : ℕ) → a < tasks job 0 → offsets a ≤ length (lines a)
    pub enough : (e b : ℕ) → e ≤ last_edge job → b < tasks job (suc e) → CanWeave (takes (suc e) b) (avail e b (sent e))

  -- The cut after it, its successor. There is one for any takes, also where the step is not defined.
  abbrev pub next : Cut
  next = record {
    offsets = offsets;
    emitted = λ i a. count_after (cut.emitted i a) (sent i a);
    tables = λ b. add_all job.agg (cut.tables b) (taken (last_edge job) b);
    flight = left;
  }
