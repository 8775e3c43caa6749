-- What a history weighs is what the entries of each number weigh, added up over the numbers.
use Rattle.std.proofs.Common.{◌≡◌, ℕ, zero, suc, ◌+◌, ◌<◌, ◌≤◌, List, [], ◌∷◌, length, get_or, take, sym, refl, ap, arith, add-one}
use Rattle.std.specs.List.{sum, sum_by}
use Rattle.std.proofs.lemmas.List.{get_or_past, take_all}
use Rattle.std.proofs.lemmas.List.Sums.{sum_by-cons, sum_by_more, sum_by-take-le}
use Rattle.turn_cell.proofs.Lists.{by-hit, by-miss}
use Rattle.turn_cell.specs.History.{by}
use Rattle.std.proofs.Math.Decide.{dec_lt}
use mathlib.Core.Logic.{dite}
use native.Mathlib.Decide.{ℕ_discrete}

-- f of each number below n, added up
abbrev pub upto : ℕ → (ℕ → ℕ) → ℕ
upto zero f = 0
upto (suc n) f = upto n f + f n

upto_le : (f g : ℕ → ℕ) → ((k : ℕ) → f k ≤ g k) → (n : ℕ) → upto n f ≤ upto n g
upto_le f g le zero = omega arith
upto_le f g le (suc n) = let r = upto_le f g le n in let h = le n in omega arith

upto_same : (f g : ℕ → ℕ) (n : ℕ) → ((k : ℕ) → k < n → f k ≡ g k) → upto n f ≡ upto n g
upto_same f g zero same = refl
upto_same f g (suc n) same = let r = upto_same f g n (λ k low. same k (omega arith)) in let h = same n (omega arith) in omega arith

-- where f is nowhere above g, their sums differ at least as they do at one number
pub upto_apart : (f g : ℕ → ℕ) → ((k : ℕ) → f k ≤ g k) → (n k : ℕ) → k < n → upto n f + g k ≤ upto n g + f k
upto_apart f g le zero k low = absurd (omega arith)
upto_apart f g le (suc n) k low = dite (ℕ_discrete k n)
    (λ e. let a = ap f e in let b = ap g e in let r = upto_le f g le n in omega arith)
    (λ ne. let r = upto_apart f g le n k (omega arith) in let h = le n in omega arith)

pub upto_sum : (f g : ℕ → ℕ) (n : ℕ) → upto n (λ k. f k + g k) ≡ upto n f + upto n g
upto_sum f g zero = refl
upto_sum f g (suc n) = let r = upto_sum f g n in omega arith

upto_is : (l : List ℕ) (n : ℕ) → upto n (λ k. get_or l k 0) ≡ sum (take n l)
upto_is l zero = refl
upto_is l (suc n) = let r = upto_is l n in dite (dec_lt n (length l))
    (λ low. let m = sum_by_more (λ x. x) l n 0 low in let s = ap (λ i. sum (take i l)) (add-one n) in omega arith)
    (λ high. let none = get_or_past l n 0 (omega arith) in let a = ap sum (take_all n l (omega arith)) in let b = ap sum (take_all (suc n) l (omega arith)) in omega arith)

pub upto_limits : (l : List ℕ) (n : ℕ) → upto n (λ k. get_or l k 0) ≤ sum l
upto_limits l n = let a = upto_is l n in let b = sum_by-take-le (λ x. x) l n in omega arith

module _ {E : Type 0} (weight : E → ℕ) where
  -- what the entries of one number weigh
  abbrev pub weight_by : List (ℕ × E) → ℕ → ℕ
  weight_by h k = sum_by weight (by k h)

  upto_nil : (n : ℕ) → upto n (weight_by []) ≡ 0
  upto_nil zero = refl
  upto_nil (suc n) = let r = upto_nil n in omega arith

  upto_before : (x : ℕ × E) (h : List (ℕ × E)) (n : ℕ) → n ≤ x.0 → upto n (weight_by (x ∷ h)) ≡ upto n (weight_by h)
  upto_before x h n low = upto_same (weight_by (x ∷ h)) (weight_by h) n (λ k below. ap (sum_by weight) (by-miss k x h (λ e. omega arith)))

  upto_among : (x : ℕ × E) (h : List (ℕ × E)) (n : ℕ) → x.0 < n → upto n (weight_by (x ∷ h)) ≡ weight x.1 + upto n (weight_by h)
  upto_among x h zero low = absurd (omega arith)
  upto_among x h (suc n) low = dite (ℕ_discrete n x.0)
      (λ e. let hit = ap (sum_by weight) (by-hit n x h e) in let more = sum_by-cons weight x.1 (by n h) in let r = upto_before x h n (omega arith) in omega arith)
      (λ ne. let miss = ap (sum_by weight) (by-miss n x h ne) in let r = upto_among x h n (omega arith) in omega arith)

-- all numbers of a history are below this one
abbrev pub top : {E : Type 0} → List (ℕ × E) → ℕ
top [] = 0
top (x ∷ h) = suc x.0 + top h

-- all numbers together
pub upto_all : {E : Type 0} (weight : E → ℕ) (h : List (ℕ × E)) (n : ℕ) → top h ≤ n → sum_by (λ e. weight e.1) h ≡ upto n (weight_by weight h)
upto_all weight [] n high = sym (upto_nil weight n)
upto_all weight (x ∷ h) n high =
    let c = sum_by-cons (λ (e : _). weight e.1) x h in let a = upto_among weight x h n (omega arith) in let r = upto_all weight h n (omega arith) in omega arith
