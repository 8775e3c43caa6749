-- What several local pools hold together fits into the limits of their pool.
use Rattle.std.proofs.Common.{◌≡◌, ℕ, zero, suc, ◌+◌, ◌-◌, ◌<◌, ◌≤◌, inl, inr, List, [], ◌∷◌, All, AllPairs, length, get_or, drop, sum, refl, ap, arith}
use Rattle.std.specs.List.{sum_by}
use Rattle.std.proofs.lemmas.List.{drop_all, get_or_past}
use Rattle.std.proofs.lemmas.List.Sums.{sum_by-cons, sum_by-drop_more}
use Rattle.std.proofs.lemmas.Bool.{cases_lt}

-- one limit and those after it
step : (xs : List ℕ) (n : ℕ) → get_or xs n 0 + sum (drop (n + 1) xs) ≤ sum (drop n xs)
step xs n =
    elim (cases_lt n (length xs)) [
      | inl inside ↦ omega (arith, sum_by-drop_more (λ x. x) xs n 0 inside)
      | inr past ↦ omega (arith, ap sum (drop_all (n + 1) xs (omega arith)), get_or_past xs n 0 past)
    ]

-- those from a later place on are fewer
later : (xs : List ℕ) (m k n : ℕ) → n ≡ m + k → sum (drop n xs) ≤ sum (drop m xs)
later xs m zero n e = let same : n ≡ m = omega arith in rw same (omega arith)
later xs m (suc k) n e =
    let before = later xs m k (m + k) refl in
    let next : n ≡ (m + k) + 1 = omega arith in
    let less = step xs (m + k) in
    rw next (omega arith)

module _ {X : Type 0} (f place : X → ℕ) (limits : List ℕ) where
  -- each has one of the limits from a place on
  pub fits_from : (xs : List X) (m : ℕ) → All (λ x. f x ≤ get_or limits (place x) 0) xs → AllPairs (λ x y. place x < place y) xs → All (λ x. m ≤ place x) xs → sum_by f xs ≤ sum (drop m limits)
  fits_from [] m each rising from = omega arith
  fits_from (x ∷ xs) m each rising from =
      let n = place x in
      let own : f x ≤ get_or limits n 0 = each 0 x (omega arith) in
      let start : m ≤ n = from 0 x (omega arith) in
      let after : All (λ y. n + 1 ≤ place y) xs = λ k d within. let above = rising 0 (suc k) d (omega arith) (omega arith) in omega arith in
      let others = fits_from xs (n + 1) (λ k d within. each (suc k) d (omega arith))
      (λ i j d less within. rising (suc i) (suc j) d (omega arith) (omega arith)) after in
      let one = step limits n in
      let down = later limits m (n - m) n (omega arith) in
      rw (sum_by-cons f x xs) (omega arith)
