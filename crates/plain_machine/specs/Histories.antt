-- What the tasks of a job did up to a checkpoint, and that it is the machine's step. A task's history
-- is the list of the records that it took, in order, each with its sender.
use Rattle.std.specs.Prelude.{◌≡◌, ℕ, suc, ◌==◌, ◌<◌, ◌≤◌, length, slice_range, List, [], ◌∷◌, ◌++◌, flat_map, map, replicate, if◌then◌else◌}
use Rattle.flow_defs.specs.declared.job.Job.{Job}
use Rattle.flow_defs.specs.declared.image.TakeRun.{TakeRun}
use Rattle.flow_defs.specs.Jobs.{last_edge, tasks}
use Rattle.plain_machine.specs.Cuts.{Cut}
use Rattle.plain_machine.specs.Emitting.{apply_behind}
use Rattle.plain_machine.specs.Steps.{Rises, avail, sent, taken, left, IsStep}

-- The sender of each record that runs take.
abbrev pub run_senders : List TakeRun → List ℕ
run_senders runs = flat_map (λ (run : TakeRun). replicate run.count run.from) runs

-- The sender of each record that a task took.
abbrev pub senders : List (ℕ × List ℕ) → List ℕ
senders took = map (λ t. t.0) took

-- The records alone.
abbrev pub records : List (ℕ × List ℕ) → List (List ℕ)
records took = map (λ t. t.1) took

-- The records of one sender among them.
abbrev pub of_sender : ℕ → List (ℕ × List ℕ) → List (List ℕ)
of_sender a [] = []
of_sender a (t ∷ took) = if t.0 == a then t.1 ∷ of_sender a took else of_sender a took

-- From this cut on, up to these offsets, task a of stage i emitted put i a, and task b behind edge e
-- took took e b, as its takes say. What was there on a channel is what was taken of it, and then the rest.
pub record Ran (job : Job) (lines : ℕ → List (List ℕ)) (cut : Cut) (takes : ℕ → ℕ → List TakeRun) (offsets : ℕ → ℕ)
    (took : ℕ → ℕ → List (ℕ × List ℕ)) (put : ℕ → ℕ → List (List ℕ)) (rest : ℕ → ℕ → ℕ → List (List ℕ)) : Type 0 where
  pub rise : Rises job cut.offsets offsets
  pub within : (a : ℕ) → a < tasks job 0 → offsets a ≤ length (lines a)
  pub sources : (a : ℕ) → a < tasks job 0 → put 0 a ≡ slice_range (lines a) (cut.offsets a) (offsets a)
  pub stages : (e b : ℕ) → e < last_edge job → b < tasks job (suc e) → put (suc e) b ≡ flat_map (apply_behind job e) (records (took e b))
  pub runs : (e b : ℕ) → e ≤ last_edge job → b < tasks job (suc e) → run_senders (takes (suc e) b) ≡ senders (took e b)
  pub channels : (e b : ℕ) → e ≤ last_edge job → b < tasks job (suc e) → (a : ℕ) → avail job lines cut takes offsets e b (put e) a ≡ of_sender a (took e b) ++ rest e a b

-- The step is defined, and in it each task emits, takes and leaves the same.
pub record IsStepOf (job : Job) (lines : ℕ → List (List ℕ)) (cut : Cut) (takes : ℕ → ℕ → List TakeRun) (offsets : ℕ → ℕ)
    (took : ℕ → ℕ → List (ℕ × List ℕ)) (put : ℕ → ℕ → List (List ℕ)) (rest : ℕ → ℕ → ℕ → List (List ℕ)) : Type 0 where
  pub defined : IsStep job lines cut takes offsets
  pub sent_is : (e a : ℕ) → e ≤ last_edge job → a < tasks job e → sent job lines cut takes offsets e a ≡ put e a
  pub taken_is : (e b : ℕ) → e ≤ last_edge job → b < tasks job (suc e) → taken job lines cut takes offsets e b ≡ records (took e b)
  pub left_is : (e a b : ℕ) → e ≤ last_edge job → b < tasks job (suc e) → left job lines cut takes offsets e a b ≡ rest e a b
