-- What a history weighs is what its passes' own entries weigh together.
use Rattle.std.proofs.Common.{◌≡◌, ℕ, suc, ◌+◌, ◌<◌, ◌≤◌, List, [], ◌∷◌, length, sym, refl, ap, ◌∙◌, arith}
use Rattle.std.specs.List.{sum_by}
use Rattle.std.proofs.lemmas.List.Sums.{sum_by-cons}
use Rattle.turn_cell.proofs.Lists.{by-hit, by-miss, total-is}
use mathlib.Core.Option.{some}
use mathlib.Core.Logic.{dite}
use native.Mathlib.Decide.{ℕ_discrete}
use Rattle.std.proofs.Math.Decide.{dec_lt}
use lib.ListN.{get_elem?}
use Rattle.turn_cell.specs.History.{by}
use Rattle.turn_cell.specs.Rule.{total}

module _ {E : Type 0} where
  tail_none : (k : ℕ) (x : ℕ × E) (xs : List (ℕ × E)) → by k (x ∷ xs) ≡ [] → by k xs ≡ []
  tail_none k x xs none = dite (ℕ_discrete k x.0) (λ e. let hit = by-hit k x xs e in absurd (cc)) (λ ne. sym (by-miss k x xs ne) ∙ none)

  head_not : (x : ℕ × E) (xs : List (ℕ × E)) → by x.0 (x ∷ xs) ≡ [] → ⊥
  head_not x xs none = let hit = by-hit x.0 x xs refl in cc

module _ {P E : Type 0} (mine : P → List E) (weight : E → ℕ) where
  -- what the entries of these passes weigh, which have the numbers from k on
  abbrev spread : List (ℕ × E) → ℕ → List P → ℕ
  spread log k [] = 0
  spread log k (p ∷ ps) = total weight (by k log) + spread log (suc k) ps

  spread-nil : (k : ℕ) (ps : List P) → spread [] k ps ≡ 0
  spread-nil k [] = refl
  spread-nil k (p ∷ ps) = let r = spread-nil (suc k) ps in omega arith

  spread-before : (x : ℕ × E) (log : List (ℕ × E)) (k : ℕ) (ps : List P) → x.0 < k → spread (x ∷ log) k ps ≡ spread log k ps
  spread-before x log k [] low = refl
  spread-before x log k (p ∷ ps) low = let miss = ap (total weight) (by-miss k x log (λ e. omega arith)) in let r = spread-before x log (suc k) ps (omega arith) in omega arith

  spread-among : (x : ℕ × E) (log : List (ℕ × E)) (k : ℕ) (ps : List P) → k ≤ x.0 → x.0 < k + length ps → spread (x ∷ log) k ps ≡ weight x.1 + spread log k ps
  spread-among x log k [] low high = absurd (omega arith)
  spread-among x log k (p ∷ ps) low high = dite (ℕ_discrete k x.0)
      (λ e. let hit = ap (total weight) (by-hit k x log e) in let r = spread-before x log (suc k) ps (omega arith) in omega arith)
      (λ ne. let miss = ap (total weight) (by-miss k x log ne) in let r = spread-among x log (suc k) ps (omega arith) (omega arith) in omega arith)

  spread-all : (log : List (ℕ × E)) (ps : List P) → ((k : ℕ) → length ps ≤ k → by k log ≡ []) → total (λ (e : ℕ × E). weight e.1) log ≡ spread log 0 ps
  spread-all [] ps none = sym (spread-nil 0 ps)
  spread-all (x ∷ log) ps none = dite (dec_lt x.0 (length ps))
      (λ among. let h = spread-among x log 0 ps (omega arith) (omega arith) in let r = spread-all log ps (λ k m. tail_none k x log (none k m)) in omega arith)
      (λ past. absurd (head_not x log (none x.0 (omega arith))))

  spread-own : (log : List (ℕ × E)) (k : ℕ) (ps : List P) → ((j : ℕ) (p : P) → get_elem? ps j ≡ some p → by (k + j) log ≡ mine p) → spread log k ps ≡ total (λ (p : P). total weight (mine p)) ps
  spread-own log k [] own = refl
  spread-own log k (p ∷ ps) own =
      let here : by k log ≡ mine p = ap (λ n. by n log) (omega arith) ∙ own 0 p refl in let w = ap (total weight) here in
      let r = spread-own log (suc k) ps (λ j q at. ap (λ n. by n log) (omega arith) ∙ own (suc j) q at) in omega arith

  sums-same : {A : Type 0} → (f g : A → ℕ) → ((x : A) → f x ≡ g x) → (l : List A) → total f l ≡ sum_by g l
  sums-same f g same [] = refl
  sums-same f g same (x ∷ xs) = let a = same x in let b = sums-same f g same xs in let c = sum_by-cons g x xs in omega arith

  pub weighs : (log : List (ℕ × E)) (ps : List P) → ((j : ℕ) (p : P) → get_elem? ps j ≡ some p → by j log ≡ mine p) → ((k : ℕ) → length ps ≤ k → by k log ≡ [])
      → sum_by (λ (e : ℕ × E). weight e.1) log ≡ sum_by (λ (p : P). sum_by weight (mine p)) ps
  weighs log ps own none =
      let all = spread-all log ps none ∙ spread-own log 0 ps (λ j p at. ap (λ n. by n log) (omega arith) ∙ own j p at) in
      sym (total-is (λ (e : ℕ × E). weight e.1) log) ∙ (all ∙ sums-same (λ (p : P). total weight (mine p)) (λ (p : P). sum_by weight (mine p)) (λ p. total-is weight (mine p)) ps)
