-- Weaving: a task takes the records of its channels in runs, so many of one sender after so many of
-- another. The runs say all that is free in what a task does; that they are recorded is this project's
-- own choice. What a sender has to give is a family of lists, by the sender's index.
use Rattle.std.specs.Prelude.{ℕ, ◌≤◌, ◌==◌, ⊤, List, [], ◌∷◌, ◌++◌, length, take, drop, if◌then◌else◌}
use Rattle.flow_defs.specs.declared.image.TakeRun.{TakeRun}

-- What each sender has left behind a run.
abbrev pub behind : TakeRun → (ℕ → List (List ℕ)) → ℕ → List (List ℕ)
behind run avail a = if run.from == a then drop run.count (avail a) else avail a

-- The records that runs take, in the order in which they take them.
abbrev pub woven : List TakeRun → (ℕ → List (List ℕ)) → List (List ℕ)
woven [] avail = []
woven (run ∷ runs) avail = take run.count (avail run.from) ++ woven runs (behind run avail)

-- What runs leave of each sender's records.
abbrev pub rests : List TakeRun → (ℕ → List (List ℕ)) → ℕ → List (List ℕ)
rests [] avail = avail
rests (run ∷ runs) avail = rests runs (behind run avail)

-- No run asks for more than its sender has left.
abbrev pub CanWeave : List TakeRun → (ℕ → List (List ℕ)) → Type 0
CanWeave [] avail = ⊤
CanWeave (run ∷ runs) avail = (run.count ≤ length (avail run.from)) × CanWeave runs (behind run avail)
