-- How many images a finished chain from the start has.
use Rattle.std.proofs.Common.{◌≡◌, ℕ, zero, suc, ◌+◌, ◌*◌, ◌/◌, ◌<◌, ◌≤◌, true, false, List, [], ◌∷◌, length, Some, None, refl, sym, ap, subst, ◌∙◌, arith, inl, inr}
use Rattle.std.specs.Prelude.{slice_index, nat_lt, min}
use Rattle.std.proofs.lemmas.Bool.{ltb-true, lt-ltb, cases_lt}
use Rattle.std.proofs.lemmas.Nat.{div_below, le-div}
use Rattle.std.proofs.lemmas.Option.{get_or_from_slice_get, same_Some}
use Rattle.flow_defs.specs.declared.job.Job.{Job}
use Rattle.flow_defs.specs.declared.image.Image.{Image}
use Rattle.flow_defs.specs.Jobs.{tasks, IsJob}
use Rattle.plain_machine.specs.Images.{AllEnded, IsStart}
use Rattle.plain_machine.specs.Chains.{Follows, Chain, last_of}
use Rattle.plain_machine.specs.Counts.{most_below, most_lines}
use Rattle.plain_machine.specs.SizeTheorems.{FinishedChainIsCounted}
use Rattle.plain_machine.proofs.StartLemmas.{start_is_start}
use Rattle.plain_machine.proofs.LastLemmas.{at_place}

-- ---- the greatest of some numbers

one_of_most : (n : ℕ) (f : ℕ → ℕ) (i : ℕ) → i < n → f i ≤ most_below n f
one_of_most zero f i low = absurd (omega arith)
one_of_most (suc n) f i low = elim (cases_lt i n) [
  | inl below ↦ let deep = one_of_most n f i below in omega (arith, deep)
  | inr above ↦ let same : f i ≡ f n = ap f (let z : i ≡ n = omega arith in z) in omega (arith, same)
]

most_under : (n : ℕ) (f : ℕ → ℕ) (m : ℕ) → 1 ≤ n → ((i : ℕ) → i < n → f i < m) → most_below n f < m
most_under zero f m some under = absurd (omega arith)
most_under (suc zero) f m some under = let last = under 0 (omega arith) in omega (arith, last)
most_under (suc (suc n)) f m some under =
    let deep = most_under (suc n) f m (omega arith) (λ i low. under i (omega arith)) in
    let last = under (suc n) (omega arith) in
    omega (arith, deep, last)

some_interval : (k n x : ℕ) → x < k * n → 1 ≤ n
some_interval k zero x low = absurd (omega (arith, low))
some_interval k (suc n) x low = omega arith

-- ---- with an interval

module _ (job : Job) (lines : ℕ → List (List ℕ)) (n : ℕ) (is : IsJob job) where
  -- how far the sources are after so many intervals
  record IsAfter (k : ℕ) (image : Image) : Type 0 where
    offsets : (a : ℕ) → a < tasks job 0 → slice_index image.offsets.items a ≡ min (k * n) (length (lines a))
    past : AllEnded image → most_lines job lines < k * n
    ended : most_lines job lines < k * n → AllEnded image

  some_source : 1 ≤ tasks job 0
  some_source = (is.counts 0 (omega arith)).0

  next_is_after : (k : ℕ) (old new : Image) → IsAfter k old → Follows job lines (Some n) old new → IsAfter (suc k) new
  next_is_after k old new at follows = record {
    offsets = λ a here. let was = at.offsets a here in let goes = follows.goes.offsets a here in omega (arith, was, goes);
    past = λ all. most_under (tasks job 0) (λ a. length (lines a)) (suc k * n) some_source (λ a here.
        let was = at.offsets a here in
        let low : a < length new.ended.items = (let many = follows.fits.ended in omega (arith, here, many)) in
        let told = same_Some true (nat_lt (length (lines a)) (slice_index old.offsets.items a + n)) (sym (at_place new.ended.items a true true low (all a true low)) ∙ follows.goes.ended a here) in
        let past = ltb-true (length (lines a)) (slice_index old.offsets.items a + n) (sym told) in
        omega (arith, was, past));
    ended = λ high a d low.
        let here : a < tasks job 0 = (let many = follows.fits.ended in omega (arith, low, many)) in
        let was = at.offsets a here in
        let most = one_of_most (tasks job 0) (λ a. length (lines a)) a here in
        let some = some_interval (suc k) n (most_lines job lines) high in
        let past : length (lines a) < slice_index old.offsets.items a + n = omega (arith, was, most, some, high) in
        get_or_from_slice_get new.ended.items a true d (follows.goes.ended a here ∙ ap Some (lt-ltb (length (lines a)) (slice_index old.offsets.items a + n) past));
  }

  start_is_after : (image : Image) → IsStart job image → IsAfter 0 image
  start_is_after image begins = record {
    offsets = λ a here. let none = (start_is_start job image begins).offsets a here in omega (arith, none);
    past = λ all.
        let low : 0 < length image.ended.items = (let many = begins.fits.ended in omega (arith, many, some_source)) in
        let no : false ≡ true = sym (begins.ended 0 true low) ∙ all 0 true low in absurd cc;
    ended = λ high. absurd (omega (arith, high));
  }

  -- the last image is behind the first one at which all sources are ended
  abbrev IsEnd : ℕ → Type 0
  IsEnd j = (most_lines job lines < j * n) × ((i : ℕ) → j ≡ suc i → i * n ≤ most_lines job lines)

  walk : (k : ℕ) (base image : Image) (images : List Image) → IsAfter k base → Chain job lines (Some n) base (image ∷ images) → ((i : ℕ) → k ≡ suc i → i * n ≤ most_lines job lines) →
      (last_of base (image ∷ images)).final_one ≡ true → (j : ℕ) → k + length images ≡ j → IsEnd j
  walk k base image [] at chain before final j same =
      let past = at.past (chain.0.goes.last.0 final) in
      let it : k ≡ j = omega (arith, same) in
      subst IsEnd it (past, before)
  walk k base image (next ∷ images) at chain before final j same =
      walk (suc k) image next images (next_is_after k base image at chain.0) chain.1 not_yet final j (omega (arith, same))
    where
      no_end : most_lines job lines < k * n → ⊥
      no_end high = let last = chain.0.goes.last.1 (at.ended high) in let not = chain.1.0.not_last in let no : false ≡ true = sym not ∙ last in absurd cc

      not_yet : (i : ℕ) → suc k ≡ suc i → i * n ≤ most_lines job lines
      not_yet i e = elim (cases_lt (most_lines job lines) (k * n)) [
        | inl high ↦ absurd (no_end high)
        | inr low ↦ subst (λ m. m * n ≤ most_lines job lines) (let z : k ≡ i = omega (arith, e) in z) low
      ]

-- the number of intervals that go into the longest source
divided : (m n i : ℕ) → m < suc i * n → i * n ≤ m → m / n ≡ i
divided m n i high low =
    let some = some_interval (suc i) n m high in
    let most = div_below m n (suc i) some high in
    let least = le-div i m n some low in
    omega (arith, most, least)

counted_by : (job : Job) (lines : ℕ → List (List ℕ)) (n : ℕ) (base image : Image) (images : List Image) → IsJob job → IsStart job base → Chain job lines (Some n) base (image ∷ images) →
    (last_of base (image ∷ images)).final_one ≡ true → (j : ℕ) → length images ≡ j → suc j ≡ 2 + most_lines job lines / n
counted_by job lines n base image images is begins chain final j same =
    elim j as (λ j. IsEnd job lines n is j → suc j ≡ 2 + most_lines job lines / n) [
      | zero ↦ λ ends. let high = ends.0 in absurd (omega (arith, high))
      | suc i ↦ λ ends. let all = divided (most_lines job lines) n i ends.0 (ends.1 i refl) in omega (arith, all)
    ] (walk job lines n is 0 base image images (start_is_after job lines n is base begins) chain (λ i e. absurd (omega (arith, e))) final j (omega (arith, same)))

pub finished_chain_is_counted : FinishedChainIsCounted
finished_chain_is_counted job lines every base [] is begins chain final = let not = begins.not_last in let no : false ≡ true = sym not ∙ final in absurd cc
finished_chain_is_counted job lines None base (image ∷ []) is begins chain final = refl
finished_chain_is_counted job lines None base (image ∷ next ∷ images) is begins chain final =
    let last = chain.0.goes.last in let not = chain.1.0.not_last in let no : false ≡ true = sym not ∙ last in absurd cc
finished_chain_is_counted job lines (Some n) base (image ∷ images) is begins chain final =
    let all = counted_by job lines n base image images is begins chain final (length images) refl in omega (arith, all)
