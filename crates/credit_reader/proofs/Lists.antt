-- Lists of numbers: how often one stands there, and the list without it.
use Rattle.std.proofs.Common.{◌≡◌, ℕ, ◌+◌, ◌<◌, ◌≤◌, Bool, true, false, not, cond, eqb, List, [], ◌∷◌, ◌++◌, length, take, drop, get_or, refl, sym, ap, ◌∙◌, arith}
use Rattle.std.specs.Prelude.{count_by, filter}
use Rattle.std.proofs.lemmas.Bool.{eqb-true, eq-eqb, ne_eqb}
use Rattle.std.proofs.lemmas.List.{append_assoc, drop_more, drop_all, take_all, take_more, length-append, length-drop, length-take-le}
use Rattle.credit_reader.specs.Places.{passed}
use Rattle.std.proofs.lemmas.List.Elements.{filter-append}
use Rattle.std.proofs.lemmas.List.Sums.{sum_by-cons, sum_by_push}

abbrev pub one_if : Bool → ℕ
one_if b = cond b 1 0

-- how often a number stands in a list
abbrev pub count : ℕ → List ℕ → ℕ
count i xs = count_by (λ p. eqb p i) xs

-- the list without a number
abbrev pub without : ℕ → List ℕ → List ℕ
without i xs = filter (λ p. not (eqb p i)) xs

pub count_cons : (i x : ℕ) (xs : List ℕ) → count i (x ∷ xs) ≡ one_if (eqb x i) + count i xs
count_cons i x xs = sum_by-cons (λ p. one_if (eqb p i)) x xs

pub count_push : (i x : ℕ) (xs : List ℕ) → count i (xs ++ x ∷ []) ≡ count i xs + one_if (eqb x i)
count_push i x xs = sum_by_push (λ p. one_if (eqb p i)) xs x

pub count_without_same : (i : ℕ) (xs : List ℕ) → count i (without i xs) ≡ 0
count_without_same i [] = refl
count_without_same i (x ∷ xs) =
    elim (eqb x i) as (λ b. eqb x i ≡ b → count i (cond (not b) (x ∷ without i xs) (without i xs)) ≡ 0) [
      | true ↦ λ is. count_without_same i xs
      | false ↦ λ is. count_cons i x (without i xs) ∙ ap (λ b. one_if b + count i (without i xs)) is ∙ omega (arith, count_without_same i xs)
    ] refl

pub count_without_other : (i j : ℕ) → (i ≡ j → ⊥) → (xs : List ℕ) → count j (without i xs) ≡ count j xs
count_without_other i j other [] = refl
count_without_other i j other (x ∷ xs) =
    elim (eqb x i) as (λ b. eqb x i ≡ b → count j (cond (not b) (x ∷ without i xs) (without i xs)) ≡ count j (x ∷ xs)) [
      | true ↦ λ is. let x_is : x ≡ i = eqb-true x i is in
          let ne : eqb x j ≡ false = ne_eqb x j (λ e. other (sym x_is ∙ e)) in
          count_without_other i j other xs ∙ sym (count_cons j x xs ∙ ap (λ b. one_if b + count j xs) ne ∙ omega arith)
      | false ↦ λ is. count_cons j x (without i xs) ∙ ap (λ n. one_if (eqb x j) + n) (count_without_other i j other xs) ∙ sym (count_cons j x xs)
    ] refl

pub length_without : (i : ℕ) (xs : List ℕ) → length (without i xs) + count i xs ≡ length xs
length_without i [] = refl
length_without i (x ∷ xs) =
    elim (eqb x i) as (λ b. eqb x i ≡ b → length (cond (not b) (x ∷ without i xs) (without i xs)) + count i (x ∷ xs) ≡ length (x ∷ xs)) [
      | true ↦ λ is. let more : count i (x ∷ xs) ≡ 1 + count i xs = count_cons i x xs ∙ ap (λ b. one_if b + count i xs) is in omega (arith, length_without i xs, more)
      | false ↦ λ is. let same : count i (x ∷ xs) ≡ 0 + count i xs = count_cons i x xs ∙ ap (λ b. one_if b + count i xs) is in omega (arith, length_without i xs, same)
    ] refl

-- a number that stands first is there
pub count_first : (i : ℕ) (xs : List ℕ) → 1 ≤ count i (i ∷ xs)
count_first i xs = let here : count i (i ∷ xs) ≡ 1 + count i xs = count_cons i i xs ∙ ap (λ b. one_if b + count i xs) (eq-eqb i i refl) in omega (arith, here)

-- ---- a list that is turned round, one item at a time, while a number is left out

-- the list after so many items
abbrev pub turned : ℕ → ℕ → List ℕ → List ℕ
turned i k xs = drop k xs ++ without i (take k xs)

pub turned_more : (i k : ℕ) (xs : List ℕ) → k < length xs → passed i (turned i k xs) ≡ turned i (k + 1) xs
turned_more i k xs lt =
    let x = get_or xs k 0 in
    let cut : turned i k xs ≡ x ∷ (drop (k + 1) xs ++ without i (take k xs)) = ap (λ ys. ys ++ without i (take k xs)) (drop_more xs k 0 lt) in
    ap (passed i) cut
    ∙ append_assoc (drop (k + 1) xs) (without i (take k xs)) (without i (x ∷ []))
    ∙ ap (λ ys. drop (k + 1) xs ++ ys) (sym (ap (without i) (take_more xs k 0 lt) ∙ filter-append (λ p. not (eqb p i)) (take k xs) (x ∷ [])))

pub turned_all : (i : ℕ) (xs : List ℕ) → turned i (length xs) xs ≡ without i xs
turned_all i xs = ap (λ ys. ys ++ without i (take (length xs) xs)) (drop_all (length xs) xs (omega arith)) ∙ ap (without i) (take_all (length xs) xs (omega arith))

pub length_turned : (i k : ℕ) (xs : List ℕ) → k ≤ length xs → length (turned i k xs) ≤ length xs
length_turned i k xs le = omega (arith, length-append (drop k xs) (without i (take k xs)), length-drop k xs, length-take-le k xs le, length_without i (take k xs))
