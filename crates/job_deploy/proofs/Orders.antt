-- Lists that stand from the last item on.
use Rattle.std.proofs.Common.{◌≡◌, ℕ, suc, ◌+◌, ◌-◌, ◌<◌, ◌≤◌, true, false, true≢false, List, [], ◌∷◌, ◌++◌, length, get_or, Some, sym, ap, subst, ◌∙◌, arith}
use Rattle.std.specs.Prelude.{All, slice_get, reverse, ◌↔◌}
use Rattle.std.specs.List.{between}
use Rattle.std.proofs.lemmas.List.{get_or-reverse, length-reverse}
use Rattle.std.proofs.lemmas.List.Edits.{length-between, get_or-between}
use Rattle.std.proofs.lemmas.Option.{slice_get-get_or, slice_get_within, get_or_from_slice_get}
use Rattle.job_cells.proofs.Lists.{each_push, in_front}
use Rattle.job_deploy.specs.Lending.{AreTurned}

module _ {A : Type 0} where
  pub turned_none : (P : ℕ → A → Type 0) (n : ℕ) (xs : List A) → xs ≡ [] → AreTurned P n xs
  turned_none P n xs none j k x sum at = let e : slice_get xs j ≡ slice_get [] j = ap (λ l. slice_get l j) none in absurd (cc)

  pub turned_push : (P : ℕ → A → Type 0) (n : ℕ) (xs ys : List A) (x : A) → ys ≡ xs ++ x ∷ [] → AreTurned P n xs → ((k : ℕ) → length xs + suc k ≡ n → P k x) → AreTurned P n ys
  turned_push P n xs ys x is each last j k y sum at =
      each_push (λ i z. (m : ℕ) → i + suc m ≡ n → P m z) xs x (λ i z found m total. each i m z total found) last j y (ap (λ l. slice_get l j) (sym is) ∙ at) k sum

  -- Turned round they stand in order.
  pub in_order : (P : ℕ → A → Type 0) (n : ℕ) (xs ys : List A) → ys ≡ reverse xs → length xs ≡ n → AreTurned P n xs → (k : ℕ) (x : A) → slice_get ys k ≡ Some x → P k x
  in_order P n xs ys is many each k x at =
      let low = slice_get_within ys k x at in
      let same : length ys ≡ length xs = ap length is ∙ length-reverse xs in
      let j : ℕ = length xs - 1 - k in
      let here : get_or xs j x ≡ x = sym (get_or-reverse xs k x (omega (arith, low, same))) ∙ ap (λ l. get_or l k x) (sym is) ∙ get_or_from_slice_get ys k x x at in
      let there : slice_get xs j ≡ Some x = slice_get-get_or xs j x (omega (arith, low, same)) ∙ ap Some here in
      each j k x (omega (arith, low, same, many)) there

  pub length_turned : (xs ys : List A) → ys ≡ reverse xs → length ys ≡ length xs
  length_turned xs ys is = ap length is ∙ length-reverse xs

  -- A list from which nothing is popped is empty.
  pub none_left : (xs : List A) → ((false ≡ true) ↔ (0 < length xs)) → length xs ≡ 0
  none_left [] e = omega arith
  none_left (x ∷ xs) e = absurd (true≢false (sym (e.1 (omega arith))))

  pub empty_list : (xs : List A) → length xs ≡ 0 → xs ≡ []
  empty_list [] e = cc
  empty_list (x ∷ xs) e = absurd (omega arith)

  -- What was read at a place stands there.
  pub stands_at : (xs : List A) (k : ℕ) (x y : A) → slice_get xs k ≡ Some x → slice_get xs k ≡ Some y → x ≡ y
  stands_at xs k x y e f = cc

-- What stands in a part of a list.
pub between_at : {A : Type 0} (xs : List A) (a n i : ℕ) (x : A) → a + n ≤ length xs → slice_get (between a (a + n) xs) i ≡ Some x → slice_get xs (a + i) ≡ Some x
between_at xs a n i x inside at =
    let low = slice_get_within (between a (a + n) xs) i x at in
    let long = length-between xs a (a + n) inside in
    let here : get_or (between a (a + n) xs) i x ≡ x = get_or_from_slice_get (between a (a + n) xs) i x x at in
    let same = get_or-between xs a (a + n) i x (omega (arith, low, long)) in
    slice_get-get_or xs (a + i) x (omega (arith, low, long, inside)) ∙ ap Some (sym same ∙ here)

-- Four items that were added to an empty list.
pub four_put : {A : Type 0} (a b c d : A) (r0 r1 r2 r3 r4 : List A) → r0 ≡ [] → r1 ≡ r0 ++ a ∷ [] → r2 ≡ r1 ++ b ∷ [] → r3 ≡ r2 ++ c ∷ [] → r4 ≡ r3 ++ d ∷ [] → r4 ≡ a ∷ b ∷ c ∷ d ∷ []
four_put a b c d r0 r1 r2 r3 r4 e0 e1 e2 e3 e4 =
    e4 ∙ ap (λ l. l ++ d ∷ []) (e3 ∙ ap (λ l. l ++ c ∷ []) (e2 ∙ ap (λ l. l ++ b ∷ []) (e1 ∙ ap (λ l. l ++ a ∷ []) e0)))

-- What holds of all holds without the last.
pub front_all : {A : Type 0} (P : A → Type 0) (xs : List A) (x : A) (whole : List A) → whole ≡ xs ++ x ∷ [] → All P whole → All P xs
front_all {A} P xs x whole is all k d low =
    let at : slice_get whole k ≡ Some (get_or xs k d) = ap (λ l. slice_get l k) is ∙ in_front xs (x ∷ []) k (get_or xs k d) (slice_get-get_or xs k d low) in
    subst P (get_or_from_slice_get whole k (get_or xs k d) d at) (all k d (slice_get_within whole k (get_or xs k d) at))
