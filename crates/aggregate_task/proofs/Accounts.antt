-- What an aggregate task did, told by chapters.
use Rattle.std.proofs.Common.{◌≡◌, ℕ, suc, List, [], ◌∷◌, map, Option, refl, sym, ap, ◌∙◌, arith}
use Rattle.std.specs.Prelude.{slice_get, unwrap_or}
use Rattle.std.specs.FinMap.{empty}
use Rattle.flow_defs.specs.declared.image.Snapshot.{Snapshot}
use Rattle.flow_defs.specs.declared.job.Job.{Job}
use Rattle.flow_defs.specs.Jobs.{last_edge}
use Rattle.flow_defs.specs.Tables.{Values, add_all}
use Rattle.plain_machine.specs.Histories.{records}
use Rattle.checkpoint_laws.specs.Chapters.{Linked, Chapter, opening, Step}
use Rattle.checkpoint_laws.proofs.Told.{ends}
use Rattle.job_start.specs.Starts.{from_of}
use Rattle.aggregate_task.specs.Snapshots.{AreSnapshots, table_with}
use Rattle.aggregate_task.specs.Accounts.{AggregateHasAccount}

chapters_of : List (List (ℕ × List ℕ)) → List Snapshot → List Chapter
chapters_of [] xs = []
chapters_of (group ∷ groups) [] = []
chapters_of (group ∷ groups) (x ∷ xs) = record { took = group; put = λ b. []; snapshot = x } ∷ chapters_of groups xs

module _ (job : Job) (b : ℕ) where
  sent_are : (k : ℕ) (table : Values) (groups : List (List (ℕ × List ℕ))) (xs : List Snapshot) → AreSnapshots job b k table groups xs → map (λ (c : Chapter). c.snapshot) (chapters_of groups xs) ≡ xs
  unfolding chapters_of
  sent_are k table [] [] are = refl
  sent_are k table [] (x ∷ xs) are = absurd are
  sent_are k table (g ∷ groups) [] are = absurd are
  sent_are k table (g ∷ groups) (x ∷ xs) are = ap (λ l. x ∷ l) (sent_are (suc k) (table_with job table g) groups xs are.1)

  took_are : (k : ℕ) (table : Values) (groups : List (List (ℕ × List ℕ))) (xs : List Snapshot) → AreSnapshots job b k table groups xs → map (λ (c : Chapter). c.took) (chapters_of groups xs) ≡ groups
  unfolding chapters_of
  took_are k table [] [] are = refl
  took_are k table [] (x ∷ xs) are = absurd are
  took_are k table (g ∷ groups) [] are = absurd are
  took_are k table (g ∷ groups) (x ∷ xs) are = ap (λ l. g ∷ l) (took_are (suc k) (table_with job table g) groups xs are.1)

  steps_of : (all : ℕ → List (List ℕ)) (every : Option ℕ) (k : ℕ) (table : Values) (groups : List (List (ℕ × List ℕ))) (xs : List Snapshot) (old : Chapter) → AreSnapshots job b k table groups xs → old.snapshot.number ≡ k → old.snapshot.table ≡ table
      → Linked (Step job all every (suc (last_edge job)) b) old (chapters_of groups xs)
  unfolding chapters_of
  steps_of all every k table [] [] old are number counted = tt
  steps_of all every k table [] (x ∷ xs) old are number counted = absurd are
  steps_of all every k table (g ∷ groups) [] old are number counted = absurd are
  steps_of all every k table (g ∷ groups) (x ∷ xs) old are number counted =
      let is = are.0.is_with in
      let this : Chapter = record { took = g; put = λ c. []; snapshot = x } in (
        record {
          task = is.task;
          number = is.number ∙ omega (arith, number);
          takes = are.0.takes;
          emits = λ further. absurd (omega (arith, further));
          counts = λ same. is.table_is ∙ ap (λ t. add_all job.agg t (records g)) (sym counted);
        },
        steps_of all every (suc k) (table_with job table g) groups xs this are.1 is.number is.table_is,
      )

pub aggregate_has_account : AggregateHasAccount
aggregate_has_account job all base b start every gate takers sent history takes cause parcels more is inside was =
    let from = from_of job start (suc (last_edge job)) b in (
      chapters_of was.groups sent,
      record {
        steps = steps_of job b all every from.number from.table was.groups sent (opening job base (suc (last_edge job)) b) was.snapshots (sym is.at.number)
            (ap (λ (tables : List Values). unwrap_or (slice_get tables b) empty) (sym is.at.tables));
        snapshots = sent_are job b from.number from.table was.groups sent was.snapshots;
        puts = λ c channel. absurd (let edge = (ends job (suc (last_edge job)) b c channel).edge in omega (arith, edge));
      },
      took_are job b from.number from.table was.groups sent was.snapshots,
    )
