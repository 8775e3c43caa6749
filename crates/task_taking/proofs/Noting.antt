-- One take more.
use Rattle.std.proofs.Common.{◌≡◌, ◌≢◌, ℕ, zero, suc, ◌+◌, ◌-◌, ◌≤◌, List, [], ◌∷◌, ◌++◌, length, Some, IsTrue, refl, sym, ap, subst, ◌∙◌, append_assoc, append-nil, arith}
use Rattle.std.specs.Prelude.{replicate, slice_get}
use Rattle.std.proofs.lemmas.Grind.{flat_map-append}
use Rattle.flow_defs.specs.declared.image.TakeRun.{TakeRun}
use Rattle.flow_defs.specs.declared.job.Job.{Job}
use Rattle.flow_defs.specs.Jobs.{is_channel}
use Rattle.plain_machine.specs.Histories.{run_senders}
use Rattle.plain_machine.specs.Images.{AreRuns}
use Rattle.task_taking.specs.Runs.{last_count}

-- the last run is the one that stands last
pub last_is : (runs : List TakeRun) (run : TakeRun) → slice_get runs (length runs - 1) ≡ Some run → last_count runs ≡ run.count
last_is [] run is = absurd (cc)
last_is (x ∷ []) run is = ap (λ (r : TakeRun). r.count) (let h : x ≡ run = cc in h)
last_is (x ∷ y ∷ runs) run is = last_is (y ∷ runs) run (let place : suc (suc (length runs) - 1) ≡ suc (suc (length runs)) - 1 = omega arith in ap (slice_get (x ∷ y ∷ runs)) place ∙ is)

pub last_count-end : (front : List TakeRun) (run : TakeRun) → last_count (front ++ run ∷ []) ≡ run.count
last_count-end [] run = refl
last_count-end (x ∷ []) run = refl
last_count-end (x ∷ y ∷ front) run = last_count-end (y ∷ front) run

abbrev run_of : ℕ → ℕ → TakeRun
run_of a n = record { «from» = a; count = n }

replicate-more : (n a : ℕ) → replicate (n + 1) a ≡ replicate n a ++ a ∷ []
replicate-more n a = subst (λ k. replicate k a ≡ replicate n a ++ a ∷ []) (let z : suc n ≡ n + 1 = omega arith in z) (more n a)
  where
    more : (n a : ℕ) → replicate (suc n) a ≡ replicate n a ++ a ∷ []
    more zero a = refl
    more (suc n) a = ap (λ l. a ∷ l) (more n a)

senders-end : (front : List TakeRun) (run : TakeRun) → run_senders (front ++ run ∷ []) ≡ run_senders front ++ replicate run.count run.from
senders-end front run = flat_map-append (λ (r : TakeRun). replicate r.count r.from) front (run ∷ []) ∙ ap (λ l. run_senders front ++ l) (append-nil (replicate run.count run.from))

-- the last run takes one record more
pub senders-grown : (old front new : List TakeRun) (last : TakeRun) (a : ℕ) → old ≡ front ++ last ∷ [] → last.from ≡ a → new ≡ front ++ run_of a (last.count + 1) ∷ [] → run_senders new ≡ run_senders old ++ a ∷ []
senders-grown old front new last a old_is same new_is =
    ap run_senders new_is ∙ senders-end front (run_of a (last.count + 1)) ∙ ap (λ l. run_senders front ++ l) (replicate-more last.count a) ∙ sym (append_assoc (run_senders front) (replicate last.count a) (a ∷ []))
    ∙ ap (λ l. l ++ a ∷ []) (sym (ap run_senders old_is ∙ senders-end front last ∙ ap (λ x. run_senders front ++ replicate last.count x) same))

-- another run begins
pub senders-new : (old new : List TakeRun) (a : ℕ) → new ≡ old ++ run_of a 1 ∷ [] → run_senders new ≡ run_senders old ++ a ∷ []
senders-new old new a new_is = ap run_senders new_is ∙ senders-end old (run_of a 1)

module _ (job : Job) (e b : ℕ) where
  runs-grown-at : (front : List TakeRun) (last next : TakeRun) → next.from ≡ last.from → 1 ≤ next.count → AreRuns job e b (front ++ last ∷ []) → AreRuns job e b (front ++ next ∷ [])
  runs-grown-at [] last next same some are = (subst (λ a. IsTrue (is_channel job e a b)) (sym same) are.0, some)
  runs-grown-at (x ∷ []) last next same some are = (are.0, are.1, subst (λ a. x.from ≢ a) (sym same) are.2, runs-grown-at [] last next same some are.3)
  runs-grown-at (x ∷ y ∷ front) last next same some are = (are.0, are.1, are.2, runs-grown-at (y ∷ front) last next same some are.3)

  runs-new-at : (front : List TakeRun) (last next : TakeRun) → last.from ≢ next.from → IsTrue (is_channel job e next.from b) → 1 ≤ next.count → AreRuns job e b (front ++ last ∷ []) → AreRuns job e b (front ++ last ∷ next ∷ [])
  runs-new-at [] last next other joined some are = (are.0, are.1, other, (joined, some))
  runs-new-at (x ∷ []) last next other joined some are = (are.0, are.1, are.2, runs-new-at [] last next other joined some are.3)
  runs-new-at (x ∷ y ∷ front) last next other joined some are = (are.0, are.1, are.2, runs-new-at (y ∷ front) last next other joined some are.3)

  pub runs-grown : (old front new : List TakeRun) (last : TakeRun) (a : ℕ) → old ≡ front ++ last ∷ [] → last.from ≡ a → new ≡ front ++ run_of a (last.count + 1) ∷ [] → AreRuns job e b old → AreRuns job e b new
  runs-grown old front new last a old_is same new_is are = subst (AreRuns job e b) (sym new_is) (runs-grown-at front last (run_of a (last.count + 1)) (sym same) (omega arith) (subst (AreRuns job e b) old_is are))

  pub runs-new : (old front mid new : List TakeRun) (last : TakeRun) (a : ℕ) → old ≡ front ++ last ∷ [] → last.from ≢ a → IsTrue (is_channel job e a b) → mid ≡ front ++ last ∷ [] → new ≡ mid ++ run_of a 1 ∷ [] → AreRuns job e b old → AreRuns job e b new
  runs-new old front mid new last a old_is other joined mid_is new_is are = subst (AreRuns job e b) (sym (new_is ∙ ap (λ l. l ++ run_of a 1 ∷ []) mid_is ∙ append_assoc front (last ∷ []) (run_of a 1 ∷ [])))
      (runs-new-at front last (run_of a 1) other joined (omega arith) (subst (AreRuns job e b) old_is are))
