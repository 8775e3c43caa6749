-- Lists in which one element is replaced, and their elements by place.
use Rattle.std.proofs.Common.{◌≡◌, ◌≢◌, ◌⊎◌, inl, inr, ℕ, zero, suc, ◌-◌, ◌<◌, List, [], ◌∷◌, ◌++◌, length, map, get_or, set, refl, sym, ap, ◌∙◌, arith}
use Rattle.std.specs.Prelude.{slice_get, Some}
use Rattle.std.specs.List.{refill, swap}
use Rattle.std.proofs.Math.ListN.{get_or-append}
use Rattle.std.proofs.Math.Seq.{get_or-append_seam}
use Rattle.std.proofs.lemmas.List.{length-set, length-append, get_or-set_same, get_or-set_other, same_lists}
use Rattle.std.proofs.lemmas.List.Edits.{Swapped, swapped_from_swap, length-swap}
use Rattle.conn_parts.specs.Places.{IsWithout}
use Rattle.flow_defs.proofs.Lists.{refilled}

-- What was read at a place stands there.
pub get_is : {X : Type 0} (xs : List X) (k : ℕ) (x : X) → k < length xs → x ≡ get_or xs k x → slice_get xs k ≡ Some x
get_is [] k x within is = absurd (omega arith)
get_is (y ∷ xs) zero x within is = ap Some (sym is)
get_is (y ∷ xs) (suc k) x within is = get_is xs k x (omega arith) is

-- The element that was put at a place stands there, and the others stay.
pub get_set : {X : Type 0} (xs : List X) (k : ℕ) (y : X) → k < length xs → slice_get (set xs k y) k ≡ Some y
get_set [] k y within = absurd (omega arith)
get_set (x ∷ xs) zero y within = refl
get_set (x ∷ xs) (suc k) y within = get_set xs k y (omega arith)

pub get_set_else : {X : Type 0} (xs : List X) (k j : ℕ) (y : X) → j ≢ k → slice_get (set xs k y) j ≡ slice_get xs j
get_set_else [] k j y ne = refl
get_set_else (x ∷ xs) zero zero y ne = absurd (ne refl)
get_set_else (x ∷ xs) zero (suc j) y ne = refl
get_set_else (x ∷ xs) (suc k) zero y ne = refl
get_set_else (x ∷ xs) (suc k) (suc j) y ne = get_set_else xs k j y (λ e. ne (ap suc e))

-- One of the two holds of each place.
pub set_cases : {X : Type 0} (xs : List X) (k j : ℕ) (y : X) →
    ((j ≡ k) × (k < length xs) × (slice_get (set xs k y) j ≡ Some y)) ⊎ (slice_get (set xs k y) j ≡ slice_get xs j)
set_cases [] k j y = inr refl
set_cases (x ∷ xs) zero zero y = inl (refl, omega arith, refl)
set_cases (x ∷ xs) zero (suc j) y = inr refl
set_cases (x ∷ xs) (suc k) zero y = inr refl
set_cases (x ∷ xs) (suc k) (suc j) y = elim (set_cases xs k j y) [
  | inl here ↦ inl (ap suc here.0, omega (arith, here.1), here.2)
  | inr else ↦ inr else
]

-- A function that says the same of the new element says the same of the list.
pub map_set : {X Y : Type 0} (f : X → Y) (xs : List X) (k : ℕ) (x y : X) → slice_get xs k ≡ Some x → f y ≡ f x → map f (set xs k y) ≡ map f xs
map_set f [] k x y is same = refl
map_set f (z ∷ xs) zero x y is same = let there : z ≡ x = cc in ap (λ v. v ∷ map f xs) (same ∙ ap f (sym there))
map_set f (z ∷ xs) (suc k) x y is same = ap (λ l. f z ∷ l) (map_set f xs k x y is same)

-- ---- an item that is taken out and put back

is_or_not : (j k : ℕ) → (j ≡ k) ⊎ (j ≢ k)
is_or_not zero zero = inl refl
is_or_not zero (suc k) = inr (λ e. omega arith)
is_or_not (suc j) zero = inr (λ e. omega arith)
is_or_not (suc j) (suc k) = elim (is_or_not j k) [
  | inl is ↦ inl (ap suc is)
  | inr ne ↦ inr (λ e. ne (omega arith))
]

module _ {X : Type 0} (xs rest : List X) (p : ℕ) (x item : X) (long : length xs ≡ suc (length rest)) (within : p < length xs) (swapped : rest ++ x ∷ [] ≡ swap xs p (length rest)) where
  -- before the last place both lists that begin with the rest are the rest
  front_same : (k : ℕ) (d : X) → k < length rest → get_or (rest ++ item ∷ []) k d ≡ get_or (rest ++ x ∷ []) k d
  front_same k d lt = get_or-append rest (item ∷ []) d k lt ∙ sym (get_or-append rest (x ∷ []) d k lt)

  there : (d : X) → Swapped (λ i. get_or xs i d) (λ i. get_or (rest ++ x ∷ []) i d) p (length rest)
  there d = swapped_from_swap xs (rest ++ x ∷ []) p (length rest) d within (omega arith) swapped

  back : (d : X) → Swapped (λ i. get_or (rest ++ item ∷ []) i d) (λ i. get_or (swap (rest ++ item ∷ []) p (length rest)) i d) p (length rest)
  back d = let l = length-append rest (item ∷ []) in swapped_from_swap (rest ++ item ∷ []) (swap (rest ++ item ∷ []) p (length rest)) p (length rest) d (omega arith) (omega arith) refl

  at_each : (k : ℕ) (d : X) → k < length xs → get_or (swap (rest ++ item ∷ []) p (length rest)) k d ≡ get_or (set xs p item) k d
  at_each k d lt = elim (is_or_not k p) [
    | inl here ↦
        ap (λ i. get_or (swap (rest ++ item ∷ []) p (length rest)) i d) here ∙ (back d).0 ∙ get_or-append_seam rest item [] d
        ∙ sym (ap (λ i. get_or (set xs p item) i d) here ∙ get_or-set_same xs p item d within)
    | inr else ↦ elim (is_or_not k (length rest)) [
      | inl last ↦
          ap (λ i. get_or (swap (rest ++ item ∷ []) p (length rest)) i d) last ∙ (back d).1
          ∙ front_same p d (less last else) ∙ (there d).0 ∙ sym (get_or-set_other xs p k item d else ∙ ap (λ i. get_or xs i d) last)
      | inr inner ↦
          (back d).2 k else inner ∙ front_same k d (omega arith) ∙ (there d).2 k else inner ∙ sym (get_or-set_other xs p k item d else)
    ]
  ]
    where
      less : k ≡ length rest → k ≢ p → p < length rest
      less last ne = elim (is_or_not p (length rest)) [
        | inl is ↦ absurd (ne (last ∙ sym is))
        | inr not ↦ omega arith
      ]

  -- The list with another item at the place.
  pub put_back : swap (rest ++ item ∷ []) p (length rest) ≡ set xs p item
  put_back =
      same_lists (swap (rest ++ item ∷ []) p (length rest)) (set xs p item)
      (length-swap (rest ++ item ∷ []) p (length rest) ∙ length-append rest (item ∷ []) ∙ omega (arith, long, length-set xs p item))
      (λ k d lt. at_each k d (omega (arith, lt, long, length-swap (rest ++ item ∷ []) p (length rest), length-append rest (item ∷ []))))

pub taken_out : {X : Type 0} (xs shown lent left rest : List X) (p : ℕ) (x : X) → shown ≡ xs → lent ≡ xs → left ≡ swap lent p (length shown - 1) →
    refill (length xs) xs left ≡ rest ++ x ∷ [] → p < length xs → IsWithout xs p rest
taken_out xs shown lent left rest p x is_shown is_lent is_left split within =
    let same : length left ≡ length xs = ap length is_left ∙ length-swap lent p (length shown - 1) ∙ ap length is_lent in
    let parts : left ≡ rest ++ x ∷ [] = sym (refilled xs left same) ∙ split in
    let long : length xs ≡ suc (length rest) = sym same ∙ ap length parts ∙ length-append rest (x ∷ []) ∙ omega arith in
    let last : length shown - 1 ≡ length rest = omega (arith, long, ap length is_shown) in
    let swapped : rest ++ x ∷ [] ≡ swap xs p (length rest) = sym parts ∙ is_left ∙ ap (λ l. swap l p (length shown - 1)) is_lent ∙ ap (swap xs p) last in
    record { many = long; whole = λ item. put_back xs rest p x item long within swapped }
