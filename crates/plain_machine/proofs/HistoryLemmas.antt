-- What a task took is what the runs of its senders weave.
use Rattle.std.proofs.Common.{◌≡◌, ℕ, zero, suc, ◌+◌, ◌<◌, ◌≤◌, true, false, cond, eqb, List, [], ◌∷◌, ◌++◌, length, take, drop, refl, sym, ap, subst, ◌∙◌, arith, append_assoc, length-append, inl, inr}
use Rattle.std.specs.Prelude.{replicate, flat_map}
use Rattle.std.proofs.lemmas.Bool.{eqb-true, eq-eqb, cond-true, cond-false, cases_lt}
use Rattle.std.proofs.lemmas.List.{take_at, drop_at}
use Rattle.flow_defs.specs.declared.image.TakeRun.{TakeRun}
use Rattle.flow_defs.specs.declared.job.Job.{Job}
use Rattle.flow_defs.specs.Jobs.{last_edge, tasks, is_channel}
use Rattle.plain_machine.specs.Cuts.{Cut}
use Rattle.plain_machine.specs.Emitting.{emit, receiver_on, apply_behind}
use Rattle.plain_machine.specs.Weaving.{woven, behind, CanWeave}
use Rattle.plain_machine.specs.Steps.{on_channel, avail, sent, taken, left}
use Rattle.plain_machine.proofs.Channels.{no_channel}
use Rattle.plain_machine.specs.Histories.{run_senders, senders, records, of_sender, Ran, IsStepOf}
use Rattle.plain_machine.specs.Theorems.{TakesAreWoven, RunsAreSteps}

-- the records of one run, and what was taken after it
record Run (count «from» : ℕ) (behind : List ℕ) (took : List (ℕ × List ℕ)) : Type 0 where
  mine : List (List ℕ)
  more : List (ℕ × List ℕ)
  many : length mine ≡ count
  all : records took ≡ mine ++ records more
  own : of_sender «from» took ≡ mine ++ of_sender «from» more
  others : (a : ℕ) → eqb «from» a ≡ false → of_sender a took ≡ of_sender a more
  next : behind ≡ senders more

first_run : (count «from» : ℕ) (behind : List ℕ) (took : List (ℕ × List ℕ)) → replicate count «from» ++ behind ≡ senders took → Run count «from» behind took
first_run zero f behind took e = record { mine = []; more = took; many = refl; all = refl; own = refl; others = λ a _. refl; next = e }
first_run (suc count) f behind [] e = absurd (let z : 0 ≡ 1 + length (replicate count f ++ behind) = sym (ap length e ∙ refl) ∙ omega arith in omega arith)
first_run (suc count) f behind (t ∷ took) e =
    let same : f ≡ t.0 = cc in
    let later = first_run count f behind took (let r : replicate count f ++ behind ≡ senders took = cc in r) in
    record {
      mine = t.1 ∷ later.mine;
      more = later.more;
      many = ap suc later.many;
      all = ap (λ xs. t.1 ∷ xs) later.all;
      own = cond-true (eqb t.0 f) _ _ (eq-eqb t.0 f (sym same)) ∙ ap (λ xs. t.1 ∷ xs) later.own;
      others = λ a h. cond-false (eqb t.0 a) _ _ (ap (λ k. eqb k a) (sym same) ∙ h) ∙ later.others a h;
      next = later.next;
    }

pub takes_are_woven : TakesAreWoven
takes_are_woven [] [] avail rest e come = (tt, refl, come)
takes_are_woven [] (t ∷ took) avail rest e come = absurd (let z : 0 ≡ 1 + length (senders took) = ap length e ∙ omega arith in omega arith)
takes_are_woven (run ∷ runs) took avail rest e come =
    let first = first_run run.count run.from (run_senders runs) took e in
    let here : avail run.from ≡ first.mine ++ (of_sender run.from first.more ++ rest run.from) = come run.from ∙ ap (λ xs. xs ++ rest run.from) first.own ∙ append_assoc first.mine (of_sender run.from first.more) (rest run.from) in
    let after : (a : ℕ) → behind run avail a ≡ of_sender a first.more ++ rest a = λ a.
    elim (eqb run.from a) as (λ t. eqb run.from a ≡ t → cond t (drop run.count (avail a)) (avail a) ≡ of_sender a first.more ++ rest a) [
      | true ↦ λ h. subst (λ k. drop run.count (avail k) ≡ of_sender k first.more ++ rest k) (eqb-true run.from a h) (ap (drop run.count) here ∙ drop_at first.mine _ run.count first.many)
      | false ↦ λ h. come a ∙ ap (λ xs. xs ++ rest a) (first.others a h)
    ] refl in
    let deep = takes_are_woven runs first.more (behind run avail) rest first.next after in
    let enough : run.count ≤ length (avail run.from) = omega (arith, ap length here, length-append first.mine (of_sender run.from first.more ++ rest run.from), first.many) in (
      (enough, deep.0),
      ap (λ xs. take run.count xs ++ woven runs (behind run avail)) here ∙ ap (λ xs. xs ++ woven runs (behind run avail)) (take_at first.mine _ run.count first.many) ∙ ap (λ xs. first.mine ++ xs) deep.1 ∙ sym first.all,
      deep.2,
    )

-- ---- a whole step

module _ (job : Job) (lines : ℕ → List (List ℕ)) (cut : Cut) (takes : ℕ → ℕ → List TakeRun) (offsets : ℕ → ℕ)
    (took : ℕ → ℕ → List (ℕ × List ℕ)) (put : ℕ → ℕ → List (List ℕ)) (rest : ℕ → ℕ → ℕ → List (List ℕ))
    (ran : Ran job lines cut takes offsets took put rest) where
  -- on a channel comes the same, if each sender puts the same
  same_avail : (e b : ℕ) → ((a : ℕ) → a < tasks job e → sent job lines cut takes offsets e a ≡ put e a) → (a : ℕ) → avail job lines cut takes offsets e b (sent job lines cut takes offsets e) a ≡ avail job lines cut takes offsets e b (put e) a
  same_avail e b same a = elim (cases_lt a (tasks job e)) [
    | inl h ↦ ap (λ (rs : List (List ℕ)). on_channel job e a b (cut.flight e a b ++ emit (receiver_on job e a) (cut.emitted e a) rs b)) (same a h)
    | inr h ↦ cond-false (is_channel job e a b) _ _ (no_channel job e a b h) ∙ sym (cond-false (is_channel job e a b) _ _ (no_channel job e a b h))
  ]

  at_edge : (e b : ℕ) → e ≤ last_edge job → b < tasks job (suc e) → ((a : ℕ) → a < tasks job e → sent job lines cut takes offsets e a ≡ put e a) →
      CanWeave (takes (suc e) b) (avail job lines cut takes offsets e b (sent job lines cut takes offsets e))
      × (taken job lines cut takes offsets e b ≡ records (took e b))
      × ((a : ℕ) → left job lines cut takes offsets e a b ≡ rest e a b)
  at_edge e b low h same =
      takes_are_woven (takes (suc e) b) (took e b) (avail job lines cut takes offsets e b (sent job lines cut takes offsets e)) (λ a. rest e a b)
      (ran.runs e b low h) (λ a. same_avail e b same a ∙ ran.channels e b low h a)

  all_put : (e : ℕ) → e ≤ last_edge job → (a : ℕ) → a < tasks job e → sent job lines cut takes offsets e a ≡ put e a
  all_put zero low a h = sym (ran.sources a h)
  all_put (suc e) low b h =
      ap (flat_map (apply_behind job e)) (at_edge e b (omega arith) h (all_put e (omega arith))).1 ∙ sym (ran.stages e b (omega arith) h)

  pub is_step_of : IsStepOf job lines cut takes offsets took put rest
  is_step_of = record {
    defined = record { rise = ran.rise; within = ran.within; enough = λ e b low h. (at_edge e b low h (all_put e low)).0 };
    sent_is = λ e a low h. all_put e low a h;
    taken_is = λ e b low h. (at_edge e b low h (all_put e low)).1;
    left_is = λ e a b low h. (at_edge e b low h (all_put e low)).2 a;
  }

pub runs_are_steps : RunsAreSteps
runs_are_steps = is_step_of
