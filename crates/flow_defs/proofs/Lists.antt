-- Lists that are equal, a list that was lent and came back, and the numbers from one on.
use Rattle.std.proofs.Common.{◌≡◌, ℕ, zero, suc, ◌+◌, List, [], ◌∷◌, ◌++◌, length, take, drop, set, sym, ap, ◌∙◌, arith, append-nil, length-append}
use Rattle.std.specs.List.{refill, range_with_len}
use Rattle.std.proofs.Math.Seq.{take-append_seam}
use Rattle.std.proofs.lemmas.List.{append_cancel_left, length-set}

-- ---- equal lists

pub head_same : {A : Type 0} (x y : A) (xs ys : List A) → x ∷ xs ≡ y ∷ ys → x ≡ y
head_same x y xs ys same = cc

pub tail_same : {A : Type 0} (x y : A) (xs ys : List A) → x ∷ xs ≡ y ∷ ys → xs ≡ ys
tail_same x y xs ys same = cc

pub no_cons : {A : Type 0} (x : A) (xs : List A) → x ∷ xs ≡ [] → ⊥
no_cons x xs none = cc

-- what leaves a list as it was is empty
pub cancel_nil : {A : Type 0} (xs ys : List A) → xs ++ ys ≡ xs → ys ≡ []
cancel_nil xs ys same = append_cancel_left xs ys [] (same ∙ sym (append-nil xs))

-- ---- a list that was lent and comes back

pub refilled : {A : Type 0} (xs ws : List A) → length ws ≡ length xs → refill (length xs) xs ws ≡ ws
refilled xs ws same = ap (λ n. take n (ws ++ drop (length ws) xs)) (sym same) ∙ take-append_seam ws (drop (length ws) xs)

-- with one element set in it
pub refilled_set : {A : Type 0} (xs ys : List A) (i : ℕ) (y : A) → ys ≡ xs → refill (length xs) xs (set ys i y) ≡ set xs i y
refilled_set xs ys i y is = refilled xs (set ys i y) (length-set ys i y ∙ ap length is) ∙ ap (λ zs. set zs i y) is

-- ---- the numbers from one on

count_more : (a n : ℕ) → range_with_len a (suc n) ≡ range_with_len a n ++ (a + n) ∷ []
count_more a zero = ap (λ k. k ∷ []) (let e : a ≡ a + 0 = omega arith in e)
count_more a (suc n) = ap (λ z. a ∷ z) (count_more (a + 1) n) ∙ ap (λ k. a ∷ (range_with_len (a + 1) n ++ k ∷ [])) (let e : (a + 1) + n ≡ a + suc n = omega arith in e)

-- the next number makes the list one longer
pub count-next : (xs : List ℕ) (k : ℕ) → xs ≡ range_with_len 1 (length xs) → k ≡ suc (length xs) → xs ++ k ∷ [] ≡ range_with_len 1 (length (xs ++ k ∷ []))
count-next xs k e next =
    ap (λ z. z ++ k ∷ []) e ∙ ap (λ j. range_with_len 1 (length xs) ++ j ∷ []) (let same : k ≡ 1 + length xs = omega (arith, next) in same)
    ∙ sym (count_more 1 (length xs))
    ∙ ap (range_with_len 1) (let l : suc (length xs) ≡ length (xs ++ k ∷ []) = omega (arith, length-append xs (k ∷ [])) in l)
