-- The worth of a cut: what a job will have counted once it has read all its lines and nothing is in
-- flight any more. This project's own notion; every successor of a cut has the same worth.
use Rattle.std.specs.Prelude.{ℕ, zero, suc, List, [], ◌∷◌, ◌++◌, length, drop, slice_range, flat_map, sum_by}
use Rattle.flow_defs.specs.declared.job.Job.{Job}
use Rattle.flow_defs.specs.declared.job.Stage.{Stage}
use Rattle.flow_defs.specs.Records.{encoded}
use Rattle.flow_defs.specs.Jobs.{last_edge, tasks}
use Rattle.flow_defs.specs.Stages.{apply}
use Rattle.flow_defs.specs.Tables.{Values, table_of, join}
use Rattle.plain_machine.specs.Cuts.{Cut}
use Rattle.plain_machine.specs.Steps.{on_channel}

-- What comes of a record behind these stages.
abbrev pub through : List Stage → List ℕ → List (List ℕ)
through [] r = r ∷ []
through (s ∷ stages) r = flat_map (through stages) (apply s r)

-- What comes onto edge e of a record on edge i.
abbrev pub reach : Job → ℕ → ℕ → List ℕ → List (List ℕ)
reach job i e r = through (slice_range job.stages.items i e) r

-- f 0, f 1 and so on, n lists end to end.
abbrev pub concat_below : {X : Type 0} → ℕ → (ℕ → List X) → List X
concat_below zero f = []
concat_below (suc n) f = concat_below n f ++ f n

-- The tally of a job: the table of all that comes to the aggregate of all lines of all sources.
abbrev pub tally : Job → (ℕ → List (List ℕ)) → Values
tally job lines = table_of job.agg (flat_map (reach job 0 (last_edge job)) (concat_below (tasks job 0) lines))

-- The records in flight on edge e.
abbrev pub in_flight : Job → Cut → ℕ → List (List ℕ)
in_flight job cut e = concat_below (tasks job e) (λ a. concat_below (tasks job (suc e)) (λ b. on_channel job e a b (cut.flight e a b)))

-- The lines past the offsets, of all sources.
abbrev pub unread : Job → (ℕ → List (List ℕ)) → Cut → List (List ℕ)
unread job lines cut = concat_below (tasks job 0) (λ a. drop (cut.offsets a) (lines a))

-- What comes over edge e of all that is in flight on it or on an edge before, and of the lines past the offsets.
abbrev pub to_come : Job → (ℕ → List (List ℕ)) → Cut → ℕ → List (List ℕ)
to_come job lines cut e =
    concat_below (suc e) (λ i. flat_map (reach job i e) (in_flight job cut i)) ++ flat_map (reach job 0 e) (unread job lines cut)

-- The tables of all aggregate tasks.
abbrev pub all_tables : Job → Cut → List Values
all_tables job cut = concat_below (tasks job (suc (last_edge job))) (λ b. cut.tables b ∷ [])

-- The worth of a cut: its tables, joined with the table of all that is still to come to the aggregate.
abbrev pub worth : Job → (ℕ → List (List ℕ)) → Cut → Values
worth job lines cut = join job.agg (all_tables job cut ++ table_of job.agg (to_come job lines cut (last_edge job)) ∷ [])

-- The load of edge e at a cut: the encoded bytes that are still to come over it.
abbrev pub load : Job → (ℕ → List (List ℕ)) → Cut → ℕ → ℕ
load job lines cut e = sum_by (λ r. length (encoded r)) (to_come job lines cut e)
