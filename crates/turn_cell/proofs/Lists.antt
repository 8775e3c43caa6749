-- Lists of entries, beginnings of lists, and sums over lists.
use Rattle.std.proofs.Common.{◌≡◌, ◌≢◌, ℕ, zero, suc, ◌+◌, ◌≤◌, ◌⊎◌, inl, inr, ⊎_elim, eqb, cond, List, [], ◌∷◌, ◌++◌, map, length, set, sym, refl, ap, ◌∙◌, arith, eq-eqb, ne_eqb, append_assoc, append-nil, length-append, Option, None, Some, true, false}
use mathlib.Core.Option.{some, some-injective, some-ne-none}
use Rattle.std.specs.List.{filter, sum_by}
use Rattle.std.proofs.lemmas.List.{map-append}
use Rattle.std.proofs.lemmas.List.Elements.{filter-append}
use Rattle.std.proofs.lemmas.List.Sums.{sum_by-cons}
use mathlib.Core.Logic.{dite}
use native.Mathlib.Decide.{ℕ_discrete}
use lib.ListN.{get_elem?}
use Rattle.turn_cell.specs.History.{by, StartsWith, told, with_sight, seen_by}
use Rattle.turn_cell.specs.Rule.{Has, total, is_number, one_if}
use Rattle.flow_defs.proofs.Lists.{no_cons}

module _ {E : Type 0} where
  pub by-hit : (k : ℕ) (x : ℕ × E) (xs : List (ℕ × E)) → k ≡ x.0 → by k (x ∷ xs) ≡ x.1 ∷ by k xs
  by-hit k x xs e = ap (λ b. map (λ (y : ℕ × E). y.1) (cond b (x ∷ filter (λ y. eqb k y.0) xs) (filter (λ y. eqb k y.0) xs))) (eq-eqb k x.0 e)

  pub by-miss : (k : ℕ) (x : ℕ × E) (xs : List (ℕ × E)) → k ≢ x.0 → by k (x ∷ xs) ≡ by k xs
  by-miss k x xs ne = ap (λ b. map (λ (y : ℕ × E). y.1) (cond b (x ∷ filter (λ y. eqb k y.0) xs) (filter (λ y. eqb k y.0) xs))) (ne_eqb k x.0 ne)

  pub by-cons : (k : ℕ) (x : ℕ × E) (xs : List (ℕ × E)) → by k (x ∷ xs) ≡ cond (eqb k x.0) (x.1 ∷ by k xs) (by k xs)
  by-cons k x xs = elim (eqb k x.0) as (λ b. map (λ (y : ℕ × E). y.1) (cond b (x ∷ filter (λ y. eqb k y.0) xs) (filter (λ y. eqb k y.0) xs)) ≡ cond b (x.1 ∷ by k xs) (by k xs)) [ true ↦ refl | false ↦ refl ]

  -- none of these entries is one of the pass's
  pub first_apart : (k : ℕ) (x : ℕ × E) (xs : List (ℕ × E)) → by k (x ∷ xs) ≡ [] → (eqb k x.0 ≡ false) × (by k xs ≡ [])
  first_apart k x xs none = elim (eqb k x.0) as (λ b. cond b (x.1 ∷ by k xs) (by k xs) ≡ [] → (b ≡ false) × (by k xs ≡ [])) [
    | true ↦ λ e. absurd (no_cons x.1 (by k xs) e)
    | false ↦ λ e. (refl, e)
  ] (sym (by-cons k x xs) ∙ none)

  pub by-append : (k : ℕ) (xs ys : List (ℕ × E)) → by k (xs ++ ys) ≡ by k xs ++ by k ys
  by-append k xs ys = ap (map (λ (y : ℕ × E). y.1)) (filter-append (λ (y : ℕ × E). eqb k y.0) xs ys) ∙ map-append (λ (y : ℕ × E). y.1) (filter (λ y. eqb k y.0) xs) (filter (λ y. eqb k y.0) ys)

  by-own : (n : ℕ) (es : List E) → by n (map (λ e. (n, e)) es) ≡ es
  by-own n [] = refl
  by-own n (e ∷ es) = by-hit n (n, e) (map (λ x. (n, x)) es) refl ∙ ap (λ l. e ∷ l) (by-own n es)

  by-other : (k n : ℕ) (es : List E) → k ≢ n → by k (map (λ e. (n, e)) es) ≡ []
  by-other k n [] ne = refl
  by-other k n (e ∷ es) ne = by-miss k (n, e) (map (λ x. (n, x)) es) ne ∙ by-other k n es ne

  -- new entries of one pass leave those of the others
  pub by-longer : (k n : ℕ) (xs : List (ℕ × E)) (es : List E) → k ≢ n → by k (xs ++ map (λ e. (n, e)) es) ≡ by k xs
  by-longer k n xs es ne = by-append k xs (map (λ e. (n, e)) es) ∙ (ap (λ l. by k xs ++ l) (by-other k n es ne) ∙ append-nil (by k xs))

  pub by-longer-own : (n : ℕ) (xs : List (ℕ × E)) (es : List E) → by n (xs ++ map (λ e. (n, e)) es) ≡ by n xs ++ es
  by-longer-own n xs es = by-append n xs (map (λ e. (n, e)) es) ∙ ap (λ l. by n xs ++ l) (by-own n es)

module _ {A : Type 0} where
  pub starts_itself : (xs : List A) → StartsWith xs xs
  starts_itself xs = ([], sym (append-nil xs))

  pub starts_on : (xs ys zs : List A) → StartsWith xs ys → StartsWith ys zs → StartsWith xs zs
  starts_on xs ys zs first second = (second.0 ++ first.0, first.1 ∙ ap (λ l. l ++ first.0) second.1 ∙ append_assoc zs second.0 first.0)

  pub starts_longer : (xs ys zs : List A) → StartsWith xs ys → StartsWith (xs ++ zs) ys
  starts_longer xs ys zs h = (h.0 ++ zs, ap (λ l. l ++ zs) h.1 ∙ append_assoc ys h.0 zs)

  pub total-set : (f : A → ℕ) (l : List A) (i : ℕ) (v w : A) → get_elem? l i ≡ some v → total f (set l i w) + f v ≡ total f l + f w
  total-set f [] i v w e = absurd (some-ne-none v (sym e))
  total-set f (x ∷ xs) zero v w e = let is : f x ≡ f v = ap f (some-injective x v e) in omega arith
  total-set f (x ∷ xs) (suc i) v w e = let r = total-set f xs i v w e in omega arith

  pub total-snoc : (f : A → ℕ) (l : List A) (x : A) → total f (l ++ x ∷ []) ≡ total f l + f x
  total-snoc f [] x = omega arith
  total-snoc f (y ∷ ys) x = let r = total-snoc f ys x in omega arith

  pub total-le : (f g : A → ℕ) (l : List A) → ((i : ℕ) (v : A) → get_elem? l i ≡ some v → f v ≤ g v) → total f l ≤ total g l
  total-le f g [] h = omega arith
  total-le f g (x ∷ xs) h = let a = h 0 x refl in let r = total-le f g xs (λ i v e. h (suc i) v e) in omega arith

  pub total-none : (f : A → ℕ) (l : List A) → ((i : ℕ) (v : A) → get_elem? l i ≡ some v → f v ≡ 0) → total f l ≡ 0
  total-none f [] h = refl
  total-none f (x ∷ xs) h = let a = h 0 x refl in let r = total-none f xs (λ i v e. h (suc i) v e) in omega arith

  pub total-at : (f : A → ℕ) (l : List A) (i : ℕ) (v : A) → get_elem? l i ≡ some v → f v ≤ total f l
  total-at f [] i v e = absurd (some-ne-none v (sym e))
  total-at f (x ∷ xs) zero v e = let is : f x ≡ f v = ap f (some-injective x v e) in omega arith
  total-at f (x ∷ xs) (suc i) v e = let r = total-at f xs i v e in omega arith

  -- where a sum is 1 at most, only one place has a part in it
  pub total-alone : (f : A → ℕ) (l : List A) (i j : ℕ) (v w : A) → total f l ≤ 1 → get_elem? l i ≡ some v → get_elem? l j ≡ some w → 1 ≤ f v → 1 ≤ f w → i ≡ j
  total-alone f [] i j v w one at_v at_w a b = absurd (some-ne-none v (sym at_v))
  total-alone f (x ∷ xs) zero zero v w one at_v at_w a b = refl
  total-alone f (x ∷ xs) zero (suc j) v w one at_v at_w a b = let is : f x ≡ f v = ap f (some-injective x v at_v) in let r = total-at f xs j w at_w in absurd (omega arith)
  total-alone f (x ∷ xs) (suc i) zero v w one at_v at_w a b = let is : f x ≡ f w = ap f (some-injective x w at_w) in let r = total-at f xs i v at_v in absurd (omega arith)
  total-alone f (x ∷ xs) (suc i) (suc j) v w one at_v at_w a b = ap suc (total-alone f xs i j v w (omega arith) at_v at_w a b)

  -- where a sum is not 0, some place has a part in it
  pub total-some : (f : A → ℕ) (l : List A) → 1 ≤ total f l → (i : ℕ) × (v : A) × (get_elem? l i ≡ some v) × (1 ≤ f v)
  total-some f [] h = absurd (omega arith)
  total-some f (x ∷ xs) h = dite (ℕ_discrete (f x) 0)
      (λ none. let r = total-some f xs (omega arith) in (suc r.0, r.1, r.2, r.3))
      (λ more. (0, x, refl, omega arith))

  pub total-has : (f : A → ℕ) (l : List A) (x : A) → Has x l → f x ≤ total f l
  total-has f [] x h = absurd h
  total-has f (y ∷ ys) x h = ⊎_elim (λ (e : x ≡ y). let is = ap f e in omega arith) (λ (t : Has x ys). let r = total-has f ys x t in omega arith) h

  pub one_home : (l : List A) (a : A) → length l ≡ 1 → set l 0 a ≡ a ∷ []
  one_home [] a e = absurd (omega arith)
  one_home (x ∷ []) a e = refl
  one_home (x ∷ y ∷ ys) a e = absurd (omega arith)

  pub at_end : (l : List A) (a b : A) (j : ℕ) → get_elem? (l ++ a ∷ []) j ≡ some b → (get_elem? l j ≡ some b) ⊎ ((j ≡ length l) × (a ≡ b))
  at_end [] a b zero e = inr (refl, some-injective a b e)
  at_end [] a b (suc j) e = absurd (some-ne-none b (sym e))
  at_end (x ∷ xs) a b zero e = inl e
  at_end (x ∷ xs) a b (suc j) e = ⊎_elim (λ h. inl h) (λ h. inr (ap suc h.0, h.1)) (at_end xs a b j e)

pub same_number : (k n : ℕ) → k ≡ n → is_number k n ≡ 1
same_number k n e = ap (λ b. one_if b) (eq-eqb k n e)

pub other_number : (k n : ℕ) → k ≢ n → is_number k n ≡ 0
other_number k n ne = ap (λ b. one_if b) (ne_eqb k n ne)

module _ {A : Type 0} where
  pub has_at : (l : List A) (i : ℕ) (a : A) → get_elem? l i ≡ some a → Has a l
  has_at [] i a e = absurd (some-ne-none a (sym e))
  has_at (x ∷ xs) zero a e = inl (sym (some-injective x a e))
  has_at (x ∷ xs) (suc i) a e = inr (has_at xs i a e)

  pub total-is : (f : A → ℕ) (l : List A) → total f l ≡ sum_by f l
  total-is f [] = refl
  total-is f (x ∷ xs) = let a = total-is f xs in let b = sum_by-cons f x xs in omega arith

module _ {E : Type 0} where
  pub seen_by-own : (k n : ℕ) (ms : List (ℕ × Option E)) → k ≡ n → seen_by k ((n, None) ∷ ms) ≡ seen_by k ms ++ told ms ∷ []
  seen_by-own k n ms e = ap (λ b. with_sight None b (told ms) (seen_by k ms)) (eq-eqb k n e)

  pub seen_by-other : (k n : ℕ) (ms : List (ℕ × Option E)) → k ≢ n → seen_by k ((n, None) ∷ ms) ≡ seen_by k ms
  seen_by-other k n ms ne = ap (λ b. with_sight None b (told ms) (seen_by k ms)) (ne_eqb k n ne)

module _ {A : Type 0} where
  none_behind : (xs ys zs : List A) → xs ≡ ys ++ zs → length zs ≡ 0 → xs ≡ ys
  none_behind xs ys [] e none = e ∙ append-nil ys
  none_behind xs ys (z ∷ zs) e none = absurd (omega arith)

  -- a list as long as one that it begins with is that one
  pub starts_whole : (xs ys : List A) → StartsWith xs ys → length xs ≡ length ys → xs ≡ ys
  starts_whole xs ys h e = let l = length-append ys h.0 in let same = ap length h.1 in none_behind xs ys h.0 h.1 (omega arith)
