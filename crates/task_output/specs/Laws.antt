-- What else is known of what a task sent. Each is proved as a clause of a function of `laws`.
use Rattle.std.specs.Prelude.{ℕ, ⊤, List, [], ◌∷◌, ◌++◌}
use Rattle.flow_defs.specs.declared.job.Job.{Job}
use Rattle.task_output.specs.Outputs.{Output, HasSent, HasBegun, HasFinished}

-- A task that goes on has begun nothing more than it emitted, and put no further barrier and no end.
abbrev pub SentIsBegun : Type 0
SentIsBegun = (from : ℕ) (job : Job) (e a size : ℕ) (out : Output) (groups : List (List (List ℕ))) (records : List (List ℕ)) → HasSent from job e a size out groups records → HasBegun from job e a size out groups records [] ⊥ ⊥

-- And so has one that has ended its channels.
abbrev pub FinishedIsBegun : Type 0
FinishedIsBegun = (from : ℕ) (job : Job) (e a size : ℕ) (out : Output) (groups : List (List (List ℕ))) (records : List (List ℕ)) → HasFinished from job e a size out groups records → HasBegun from job e a size out groups records [] ⊥ ⊤

-- Where nothing was emitted behind the last barrier, that barrier may be left aside.
abbrev pub BarrierIsLeftAside : Type 0
BarrierIsLeftAside =
    (from : ℕ) (job : Job) (e a size : ℕ) (out : Output) (groups : List (List (List ℕ))) (group : List (List ℕ)) →
    HasSent from job e a size out (groups ++ group ∷ []) [] → HasBegun from job e a size out groups group [] ⊤ ⊥
