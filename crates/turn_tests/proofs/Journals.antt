-- A journal has what each of its passes wrote.
use Rattle.std.proofs.Common.{◌≡◌, ℕ, ◌||◌, eqb, Bool, true, false, cond, List, [], ◌∷◌, ◌++◌, map, refl, ap, sym, ◌∙◌, true≢false, eq-eqb}
use Rattle.std.specs.List.{list_any, filter}
use Rattle.turn_tests.specs.declared.journal.Written as declared
use Rattle.turn_cell.specs.History.{by, StartsWith}
use Rattle.turn_tests.specs.Journals.{values}

or_right : (a b : Bool) → b ≡ true → (a || b) ≡ true
or_right true b e = refl
or_right false b e = e

or_step : (a b c : Bool) → (b ≡ true → c ≡ true) → (a || b) ≡ true → (a || c) ≡ true
or_step true b c h e = refl
or_step false b c h e = h e

pub shown : (v n : ℕ) (history : List (ℕ × declared.Written)) → list_any (λ (e : declared.Written). eqb e.value v) (by n history) ≡ true → list_any (λ y. eqb y v) (values history) ≡ true
shown v n [] h = h
shown v n (x ∷ xs) h =
    let kept : List (ℕ × declared.Written) = filter (λ y. eqb n y.0) xs in
    let P : Bool → Type 0 = λ b. list_any (λ (e : declared.Written). eqb e.value v) (map (λ (y : ℕ × declared.Written). y.1) (cond b (x ∷ kept) kept)) ≡ true → (eqb x.1.value v || list_any (λ y. eqb y v) (values xs)) ≡ true in
    (let f : P (eqb n x.0) = elim (eqb n x.0) as P [
      | true ↦ λ e. or_step (eqb x.1.value v) (list_any (λ (e : declared.Written). eqb e.value v) (by n xs)) (list_any (λ y. eqb y v) (values xs)) (shown v n xs) e
      | false ↦ λ e. or_right (eqb x.1.value v) (list_any (λ y. eqb y v) (values xs)) (shown v n xs e)
    ] in f h)

pub wrote : (v : ℕ) (before : List declared.Written) → list_any (λ (e : declared.Written). eqb e.value v) (before ++ record { value = v } ∷ []) ≡ true
wrote v [] = ap (λ b. b || false) (eq-eqb v v refl)
wrote v (x ∷ xs) = or_right (eqb x.value v) (list_any (λ (e : declared.Written). eqb e.value v) (xs ++ record { value = v } ∷ [])) (wrote v xs)

kept_on : (v : ℕ) (rest before : List (ℕ × declared.Written)) → list_any (λ y. eqb y v) (values before) ≡ true → list_any (λ y. eqb y v) (values (before ++ rest)) ≡ true
kept_on v rest [] h = absurd (true≢false (sym h))
kept_on v rest (x ∷ xs) h = or_step (eqb x.1.value v) (list_any (λ y. eqb y v) (values xs)) (list_any (λ y. eqb y v) (values (xs ++ rest))) (kept_on v rest xs) h

-- a later history shows what an earlier one did
pub kept : (v : ℕ) (later before : List (ℕ × declared.Written)) → StartsWith later before → list_any (λ y. eqb y v) (values before) ≡ true → list_any (λ y. eqb y v) (values later) ≡ true
kept v later before (rest, e) h = ap (λ l. list_any (λ y. eqb y v) (values l)) e ∙ kept_on v rest before h
