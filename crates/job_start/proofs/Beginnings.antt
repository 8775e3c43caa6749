-- The beginning of a job.
use Rattle.std.proofs.Common.{◌≡◌, ℕ, zero, suc, ◌+◌, Bool, false, List, [], ◌∷◌, ◌++◌, length, replicate, refl, sym, ap, ◌∙◌, subst, arith}
use Rattle.std.specs.Prelude.{All}
use Rattle.std.specs.List.{AllByRecursion}
use Rattle.std.specs.FinMap.{empty}
use Rattle.std.proofs.lemmas.List.{length-replicate, replicate_more}
use Rattle.std.proofs.lemmas.List.Elements.{All-nil, recursion_from_All}
use Rattle.flow_defs.specs.declared.job.Job.{Job}
use Rattle.flow_defs.specs.declared.image.Image.{Image}
use Rattle.flow_defs.specs.Jobs.{last_edge, tasks, sum_below}
use Rattle.flow_defs.specs.Records.{IsShort}
use Rattle.flow_defs.specs.Tables.{Values}
use Rattle.plain_machine.specs.Images.{HasShortKeys, IsStart}
use Rattle.plain_machine.specs.Places.{sending_tasks}
use Rattle.plain_machine.specs.Worth.{concat_below}
use Rattle.plain_machine.proofs.KeySums.{entries-empty}
use Rattle.plain_machine.proofs.PlaceLemmas.{length-concat_below, length-each}
use Rattle.plain_machine.proofs.StartLemmas.{all_same}
use Rattle.job_start.specs.declared.start.Start.{Start}
use Rattle.job_start.specs.Starts.{IsStartFor, IsBase}

-- ---- lists of which all items are one

pub one_more : {X : Type 0} (xs ys : List X) (n : ℕ) (x : X) → xs ≡ replicate n x → ys ≡ xs ++ x ∷ [] → ys ≡ replicate (n + 1) x
one_more xs ys n x so_far more = more ∙ ap (λ l. l ++ x ∷ []) so_far ∙ replicate_more n x

all_one : {X : Type 0} (xs : List X) (x : X) (n : ℕ) → length xs ≡ n → AllByRecursion (λ y. y ≡ x) xs → xs ≡ replicate n x
all_one [] x zero many all = refl
all_one [] x (suc n) many all = absurd (omega (arith, many))
all_one (y ∷ ys) x zero many all = absurd (omega (arith, many))
all_one (y ∷ ys) x (suc n) many all = ap (λ z. z ∷ ys) all.0 ∙ ap (λ l. x ∷ l) (all_one ys x n (omega (arith, many)) all.1)

pub many_send : (job : Job) → length (sending_tasks job) ≡ sum_below (suc (last_edge job)) (tasks job)
many_send job = length-concat_below (suc (last_edge job)) (λ i. concat_below (tasks job i) (λ a. (i, a) ∷ [])) (tasks job) (λ i _. length-each (tasks job i) (λ a. (i, a)))

-- ---- the start

no_keys : HasShortKeys empty
no_keys = subst (All (λ (row : List ℕ × ℕ). IsShort row.0)) (sym entries-empty) (All-nil (λ (row : List ℕ × ℕ). IsShort row.0))

module _ (job : Job) (start : Start) (number : start.number ≡ 0) (offsets : start.offsets.items ≡ replicate (tasks job 0) 0) (ended : start.ended.items ≡ replicate (tasks job 0) false)
    (emitted : start.emitted.items ≡ replicate (sum_below (suc (last_edge job)) (tasks job)) 0) (tables : start.tables.items ≡ replicate (tasks job (suc (last_edge job))) empty) where
  pub is_for_job : IsStartFor job start
  is_for_job = record {
    offsets = ap length offsets ∙ length-replicate (tasks job 0) 0;
    ended = ap length ended ∙ length-replicate (tasks job 0) false;
    emitted = ap length emitted ∙ length-replicate (sum_below (suc (last_edge job)) (tasks job)) 0 ∙ sym (many_send job);
    tables = ap length tables ∙ length-replicate (tasks job (suc (last_edge job))) empty;
    keys = subst (All HasShortKeys) (sym tables) (all_same (tasks job (suc (last_edge job))) empty HasShortKeys no_keys);
  }

  pub is_beginning : (base : Image) → IsStart job base → IsBase job start base
  is_beginning base is = record {
    fits = is.fits;
    at = record {
      number = number ∙ sym is.number;
      offsets = offsets ∙ sym (all_one base.offsets.items 0 (tasks job 0) is.fits.offsets (recursion_from_All (λ x. x ≡ 0) base.offsets.items is.offsets));
      ended = ended ∙ sym (all_one base.ended.items false (tasks job 0) is.fits.ended (recursion_from_All (λ (b : Bool). b ≡ false) base.ended.items is.ended));
      emitted = emitted ∙ sym (all_one base.emitted.items 0 (sum_below (suc (last_edge job)) (tasks job)) (is.fits.emitted ∙ many_send job) (recursion_from_All (λ x. x ≡ 0) base.emitted.items is.emitted));
      tables = tables ∙ sym (all_one base.tables.items empty (tasks job (suc (last_edge job))) is.fits.tables (recursion_from_All (λ (t : Values). t ≡ empty) base.tables.items is.tables));
    };
    not_last = is.not_last;
  }
