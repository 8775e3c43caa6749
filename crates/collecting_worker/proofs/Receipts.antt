-- What is known of the snapshots that were received.
use Rattle.std.proofs.Common.{◌≡◌, ⊎_elim, ℕ, ◌+◌, ◌<◌, ◌≤◌, Bool, true, false, cond, ◌&&◌, eqb, List, [], ◌∷◌, ◌++◌, length, Option, Some, None, refl, sym, ap, ◌∙◌, subst, arith}
use Rattle.std.specs.Prelude.{Contains}
use Rattle.std.specs.List.{list_any}
use Rattle.std.proofs.lemmas.Bool.{eq-eqb}
use Rattle.std.proofs.lemmas.List.{length-append}
use Rattle.std.proofs.lemmas.List.Elements.{filter-append, Contains-push_cases}
use Rattle.flow_defs.specs.declared.job.Job.{Job}
use Rattle.flow_defs.specs.declared.task.TaskId.{TaskId}
use Rattle.flow_defs.specs.declared.image.Snapshot.{Snapshot}
use Rattle.job_start.specs.declared.start.Start.{Start}
use Rattle.job_start.specs.Starts.{was_ended}
use Rattle.snapshot_channel.specs.Snapshots.{FitsTask, IsAtEnd, IsTask, MaySend, has_ended, same_task, snapshots_of}
use Rattle.snapshot_channel.specs.Passes.{opening}
use Rattle.collecting_worker.specs.Gathering.{AreReceived}
use Rattle.collecting_worker.proofs.Members.{in_contained, in_filter, any_in}

pub same_same : (s t : TaskId) → s ≡ t → same_task s t ≡ true
same_same s t e = ap (λ (u : TaskId). same_task s u) (sym e) ∙ ap (λ b. b && eqb s.index s.index) (eq-eqb s.stage s.stage refl) ∙ eq-eqb s.index s.index refl

-- those of a task do not get fewer
pub of_grows : (t : TaskId) (xs ys : List Snapshot) → length (snapshots_of t xs) ≤ length (snapshots_of t (xs ++ ys))
of_grows t xs ys =
    let is : length (snapshots_of t (xs ++ ys)) ≡ length (snapshots_of t xs) + length (snapshots_of t ys) =
    ap (λ (l : List Snapshot). length l) (filter-append (λ (x : Snapshot). same_task x.task t) xs ys) ∙ length-append (snapshots_of t xs) (snapshots_of t ys) in
    omega (arith, is)

of_one : (t : TaskId) (x : Snapshot) → x.task ≡ t → length (snapshots_of t (x ∷ [])) ≡ 1
of_one t x e = ap (λ b. length (cond b (x ∷ []) [])) (same_same x.task t e)

pub of_more : (t : TaskId) (xs : List Snapshot) (x : Snapshot) → x.task ≡ t → length (snapshots_of t (xs ++ x ∷ [])) ≡ length (snapshots_of t xs) + 1
of_more t xs x e =
    ap (λ (l : List Snapshot). length l) (filter-append (λ (x : Snapshot). same_task x.task t) xs (x ∷ []))
    ∙ length-append (snapshots_of t xs) (snapshots_of t (x ∷ []))
    ∙ ap (λ n. length (snapshots_of t xs) + n) (of_one t x e)

pub none_contained : {X : Type 0} (x : X) → Contains [] x → ⊥
none_contained x c = omega (arith, c.1)

pub received_none : (job : Job) (start : Start) (every : Option ℕ) → AreReceived job start every []
received_none job start every = record {
  fit = λ x c. absurd (none_contained x c);
  numbers = λ x c. absurd (none_contained x c);
  stay_ended = λ x y c. absurd (none_contained x c);
  were_ended = λ x c. absurd (none_contained x c);
  all_ended = λ _ x c. absurd (none_contained x c);
}

has_ended_one : (received : List Snapshot) (x : Snapshot) (t : TaskId) → Contains received x → x.task ≡ t → x.ended ≡ true → list_any (λ (y : Snapshot). y.ended) (snapshots_of t received) ≡ true
has_ended_one received x t c e ended =
    any_in (λ (y : Snapshot). y.ended) (snapshots_of t received) x (in_filter (λ (y : Snapshot). same_task y.task t) received x (in_contained received x c) (same_same x.task t e)) ended

ended_behind : (was : Bool) (before : List Snapshot) → list_any (λ (y : Snapshot). y.ended) before ≡ true → has_ended was before ≡ true
ended_behind true before e = refl
ended_behind false before e = e

was_behind : (was : Bool) (before : List Snapshot) → was ≡ true → has_ended was before ≡ true
was_behind true before e = refl
was_behind false before e = absurd (cc)

at_end_by : (every : Option ℕ) (was : Bool) (before : List Snapshot) → has_ended was before ≡ true → IsAtEnd every was before
at_end_by None was before e = tt
at_end_by (Some n) was before e = e

at_end_none : (every : Option ℕ) (was : Bool) (before : List Snapshot) → every ≡ None → IsAtEnd every was before
at_end_none None was before e = tt
at_end_none (Some n) was before e = absurd (cc)

module _ (job : Job) (start : Start) (every : Option ℕ) (received : List Snapshot) (x : Snapshot) (is_task : IsTask job x.task) (may : MaySend (opening job start every) x.task (snapshots_of x.task received) x) where
  -- the new one has a larger number than those of its task
  pub larger : AreReceived job start every received → (y : Snapshot) → Contains received y → y.task ≡ x.task → y.number < x.number
  larger was y c e =
      let low : y.number ≤ start.number + length (snapshots_of x.task received) = subst (λ t. y.number ≤ start.number + length (snapshots_of t received)) e (was.numbers y c) in
      omega (arith, low, may.number_is)

  abbrev now : List Snapshot
  now = received ++ x ∷ []

  pub received_more : AreReceived job start every received → AreReceived job start every now
  received_more was = record {
    fit = λ y c. ⊎_elim (λ old. was.fit y old) (λ e. subst (λ (z : Snapshot). IsTask job z.task × FitsTask job z) e (is_task, may.fits)) (Contains-push_cases received x y c);
    numbers = λ y c. ⊎_elim
        (λ old. let low = was.numbers y old in let more = of_grows y.task received (x ∷ []) in omega (arith, low, more))
        (λ e. let one = of_more y.task received x (ap (λ (z : Snapshot). z.task) e) in
        let same : length (snapshots_of y.task received) ≡ length (snapshots_of x.task received) = ap (λ (z : Snapshot). length (snapshots_of z.task received)) (sym e) in
        let number : y.number ≡ x.number = ap (λ (z : Snapshot). z.number) (sym e) in
        omega (arith, one, same, number, may.number_is))
        (Contains-push_cases received x y c);
    stay_ended = λ y z cy cz same first low ended. ⊎_elim
        (λ oldy. ⊎_elim
        (λ oldz. was.stay_ended y z oldy oldz same first low ended)
        (λ e. let at : y.task ≡ x.task = same ∙ ap (λ (s : Snapshot). s.task) (sym e) in
        ap (λ (s : Snapshot). s.ended) (sym e) ∙ may.at_end (ap (λ (s : Snapshot). s.task.stage) e ∙ first) (at_end_by every (was_ended start x.task.index) (snapshots_of x.task received) (ended_behind (was_ended start x.task.index) (snapshots_of x.task received) (has_ended_one received y x.task oldy at ended))))
        (Contains-push_cases received x z cz))
        (λ e. ⊎_elim
        (λ oldz. let above = larger was z oldz (sym same ∙ ap (λ (s : Snapshot). s.task) (sym e)) in let number : y.number ≡ x.number = ap (λ (s : Snapshot). s.number) (sym e) in absurd (omega (arith, above, number, low)))
        (λ f. let number : y.number ≡ z.number = ap (λ (s : Snapshot). s.number) (sym e) ∙ ap (λ (s : Snapshot). s.number) f in absurd (omega (arith, number, low)))
        (Contains-push_cases received x z cz))
        (Contains-push_cases received x y cy);
    were_ended = λ y c first ended. ⊎_elim
        (λ old. was.were_ended y old first ended)
        (λ e. let there : was_ended start x.task.index ≡ true = ap (λ (s : Snapshot). was_ended start s.task.index) e ∙ ended in
        ap (λ (s : Snapshot). s.ended) (sym e) ∙ may.at_end (ap (λ (s : Snapshot). s.task.stage) e ∙ first) (at_end_by every (was_ended start x.task.index) (snapshots_of x.task received) (was_behind (was_ended start x.task.index) (snapshots_of x.task received) there)))
        (Contains-push_cases received x y c);
    all_ended = λ none y c first. ⊎_elim
        (λ old. was.all_ended none y old first)
        (λ e. ap (λ (s : Snapshot). s.ended) (sym e) ∙ may.at_end (ap (λ (s : Snapshot). s.task.stage) e ∙ first) (at_end_none every (was_ended start x.task.index) (snapshots_of x.task received) none))
        (Contains-push_cases received x y c);
  }
