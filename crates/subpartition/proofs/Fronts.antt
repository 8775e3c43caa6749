-- Lists that are cut behind the last item that passes a test.
use Rattle.std.proofs.Common.{◌≡◌, ℕ, zero, suc, ◌+◌, ◌-◌, ◌<◌, ◌≤◌, Bool, true, false, cond, ◌||◌, List, [], ◌∷◌, ◌++◌, length, map, take, drop, Option, Some, None, slice_get, nat_lt, if◌then◌else◌, refl, sym, ap, subst, ◌∙◌, ◌⊎◌, inl, inr, append_assoc, append-nil, arith, true≢false}
use Rattle.std.specs.List.{list_any}
use Rattle.std.proofs.lemmas.List.{length-drop, length-append}
use Rattle.std.proofs.lemmas.Bool.{lt-ltb}
use Rattle.std.proofs.Math.Seq.{take-append_seam, drop-append_seam}
use Rattle.circular_buffer.specs.Buffer.{Buffer, buffer}
use Rattle.std.proofs.lemmas.Option.{same_Some}
use Rattle.flow_defs.specs.Barriers.{up_to_last, behind_last}

module _ {X : Type 0} (test : X → Bool) where
  pub or_true : (b : Bool) → (b || true) ≡ true
  or_true true = refl
  or_true false = refl

  no_item : (x : X) → None ≡ Some x → ⊥
  no_item x e = cc

  any_at : (xs : List X) (i : ℕ) (x : X) → slice_get xs i ≡ Some x → test x ≡ true → list_any test xs ≡ true
  any_at [] i x at is = absurd (no_item x at)
  any_at (y ∷ xs) zero x at is = ap (λ b. b || list_any test xs) (ap test (same_Some y x at) ∙ is)
  any_at (y ∷ xs) (suc i) x at is = ap (λ b. test y || b) (any_at xs i x at is) ∙ or_true (test y)

  -- At this place is the last one.
  abbrev pub LastAt : List X → ℕ → Type 0
  LastAt xs n = (n ≡ 0) ⊎ ((m : ℕ) × (x : X) × (n ≡ suc m) × (slice_get xs m ≡ Some x) × (test x ≡ true))

  before : (x : X) (xs : List X) (n : ℕ) (y : X) → slice_get (x ∷ xs) n ≡ Some y → test y ≡ true → LastAt xs n
  before x xs zero y at is = inl refl
  before x xs (suc n) y at is = inr (n, y, refl, at, is)

  pub behind_at : (xs : List X) (n : ℕ) → list_any test (drop n xs) ≡ false → LastAt xs n → behind_last test xs ≡ drop n xs
  behind_at [] zero none last = refl
  behind_at [] (suc n) none last = refl
  behind_at (x ∷ xs) zero none last = ap (λ b. cond b (behind_last test xs) (x ∷ xs)) none
  behind_at (x ∷ xs) (suc n) none (inl e) = absurd (omega (arith, e))
  behind_at (x ∷ xs) (suc n) none (inr at) =
      let here : at.0 ≡ n = omega (arith, at.2) in
      let get = subst (λ m. slice_get (x ∷ xs) m ≡ Some at.1) here at.3 in
      ap (λ b. cond b (behind_last test xs) (x ∷ xs)) (any_at (x ∷ xs) n at.1 get at.4) ∙ behind_at xs n none (before x xs n at.1 get at.4)

  -- The last one cuts the list.
  pub cut_in_two : (xs : List X) → up_to_last test xs ++ behind_last test xs ≡ xs
  cut_in_two [] = refl
  cut_in_two (x ∷ xs) =
      elim (list_any test (x ∷ xs)) as (λ b. cond b (x ∷ up_to_last test xs) [] ++ cond b (behind_last test xs) (x ∷ xs) ≡ x ∷ xs) [
        | true ↦ ap (λ z. x ∷ z) (cut_in_two xs)
        | false ↦ refl
      ]

  pub none_behind : (xs : List X) → list_any test (behind_last test xs) ≡ false
  none_behind [] = refl
  none_behind (x ∷ xs) =
      elim (list_any test (x ∷ xs)) as (λ b. list_any test (x ∷ xs) ≡ b → list_any test (cond b (behind_last test xs) (x ∷ xs)) ≡ false) [
        | true ↦ λ h. none_behind xs
        | false ↦ λ h. h
      ] refl

  -- Where one is at its last place counted from the back, so many stand behind it.
  none_behind_length : (xs : List X) (i : ℕ) → i ≤ length xs → behind_last test xs ≡ drop (length xs - i) xs → i ≡ length (behind_last test xs)
  none_behind_length xs i low is =
      let behind : length (behind_last test xs) ≡ length xs - (length xs - i) = ap length is ∙ length-drop (length xs - i) xs in
      omega (arith, low, behind)

  pub count_here : (xs : List X) (i : ℕ) (x : X) → i < length xs → list_any test (drop (length xs - i) xs) ≡ false → slice_get xs (length xs - i - 1) ≡ Some x → test x ≡ true → i ≡ length (behind_last test xs)
  count_here xs i x low none at is = none_behind_length xs i (omega (arith, low)) (behind_at xs (length xs - i) none (inr (length xs - i - 1, x, omega (arith, low), at, is)))

  pub count_all : (xs : List X) (i : ℕ) → i ≡ length xs → list_any test (drop (length xs - i) xs) ≡ false → length xs ≡ length (behind_last test xs)
  count_all xs i all none =
      let many : i ≡ length (behind_last test xs) = none_behind_length xs i (omega (arith, all)) (behind_at xs (length xs - i) none (inl (omega (arith, all)))) in
      omega (arith, all, many)

-- Within a list there is an item at each place.
pub slice_get_there : {X : Type 0} (xs : List X) (i : ℕ) → i < length xs → (x : X) × (slice_get xs i ≡ Some x)
slice_get_there [] i low = absurd (omega (arith, low))
slice_get_there (x ∷ xs) zero low = (x, refl)
slice_get_there (x ∷ xs) (suc i) low = slice_get_there xs i (omega (arith, low))

-- The item at a place is the first one from there on.
pub next_in : {X : Type 0} (xs : List X) (i : ℕ) (x : X) → slice_get xs i ≡ Some x → drop i xs ≡ x ∷ drop (suc i) xs
next_in [] i x at = absurd (none x at)
  where
    none : {X : Type 0} (x : X) → None ≡ Some x → ⊥
    none x e = cc
next_in (y ∷ xs) zero x at = ap (λ z. z ∷ xs) (same_Some y x at)
next_in (y ∷ xs) (suc i) x at = next_in xs i x at

pub one_more : {X : Type 0} (xs : List X) (i : ℕ) (x : X) → slice_get xs i ≡ Some x → take (suc i) xs ≡ take i xs ++ x ∷ []
one_more [] i x at = absurd (none x at)
  where
    none : {X : Type 0} (x : X) → None ≡ Some x → ⊥
    none x e = cc
one_more (y ∷ xs) zero x at = ap (λ z. z ∷ []) (same_Some y x at)
one_more (y ∷ xs) (suc i) x at = ap (λ z. y ∷ z) (one_more xs i x at)

-- What is read from the back.
pub read_back : {X : Type 0} (xs : List X) (i : ℕ) (x : X) → i < length xs → Some x ≡ (if nat_lt i (length xs) then slice_get xs (length xs - i - 1) else None) → slice_get xs (length xs - i - 1) ≡ Some x
read_back xs i x low is = sym (is ∙ ap (λ b. cond b (slice_get xs (length xs - i - 1)) None) (lt-ltb i (length xs) low))

pub none_more : {X : Type 0} (test : X → Bool) (xs : List X) (i : ℕ) (x : X) → i < length xs → list_any test (drop (length xs - i) xs) ≡ false → slice_get xs (length xs - i - 1) ≡ Some x → test x ≡ false →
    list_any test (drop (length xs - (i + 1)) xs) ≡ false
none_more test xs i x low none at is =
    let here : length xs - (i + 1) ≡ length xs - i - 1 = omega (arith, low) in
    let next : suc (length xs - i - 1) ≡ length xs - i = omega (arith, low) in
    ap (λ n. list_any test (drop n xs)) here ∙ ap (list_any test) (next_in xs (length xs - i - 1) x at)
    ∙ ap (λ b. b || list_any test (drop (suc (length xs - i - 1)) xs)) is ∙ ap (λ n. list_any test (drop n xs)) next ∙ none

-- Where the two parts of a list change places.
module _ {X : Type 0} (xs : List X) where
  pub turned_on : (m capacity : ℕ) (q0 q1 q2 : Buffer X) (x : X) → m < length xs → q0 ≡ buffer (drop m xs ++ take m xs) capacity → q1 ≡ buffer (drop 1 q0.items) q0.capacity →
      Some x ≡ slice_get q0.items 0 → q2 ≡ buffer (q1.items ++ x ∷ []) q1.capacity → q2 ≡ buffer (drop (m + 1) xs ++ take (m + 1) xs) capacity
  turned_on m capacity q0 q1 q2 x low before popped first pushed =
      let there = slice_get_there xs m low in
      let items : q0.items ≡ there.0 ∷ (drop (suc m) xs ++ take m xs) = ap (λ (q : Buffer X). q.items) before ∙ ap (λ z. z ++ take m xs) (next_in xs m there.0 there.1) in
      let same : x ≡ there.0 = same_Some x there.0 (first ∙ ap (λ z. slice_get z 0) items) in
      let rest : q1.items ≡ drop (suc m) xs ++ take m xs = ap (λ (q : Buffer X). q.items) popped ∙ ap (drop 1) items in
      let all : q1.items ++ x ∷ [] ≡ drop (suc m) xs ++ take (suc m) xs =
      ap (λ z. z ++ x ∷ []) rest ∙ append_assoc (drop (suc m) xs) (take m xs) (x ∷ [])
      ∙ ap (λ z. drop (suc m) xs ++ (take m xs ++ z ∷ [])) same ∙ ap (λ z. drop (suc m) xs ++ z) (sym (one_more xs m there.0 there.1)) in
      let next : suc m ≡ m + 1 = omega arith in
      pushed ∙ ap (λ z. buffer z q1.capacity) (all ∙ ap (λ n. drop n xs ++ take n xs) next)
      ∙ ap (buffer (drop (m + 1) xs ++ take (m + 1) xs)) (ap (λ (q : Buffer X). q.capacity) popped ∙ ap (λ (q : Buffer X). q.capacity) before)

-- An item that is put behind the first of two parts, by turning them round twice.
module _ {X : Type 0} (test : X → Bool) (xs : List X) where
  abbrev front : List X
  front = up_to_last test xs

  abbrev back : List X
  back = behind_last test xs

  front_length : (place behind : ℕ) → behind ≡ length back → place ≡ length xs - behind → place ≡ length front
  front_length place behind counted here =
      let all : length xs ≡ length front + length back = ap length (sym (cut_in_two test xs)) ∙ length-append front back in
      omega (arith, counted, here, all)

  pub back_is : (place behind : ℕ) → behind ≡ length back → place ≡ length xs - behind → drop place xs ≡ back
  back_is place behind counted here =
      ap (λ n. drop n xs) (front_length place behind counted here) ∙ ap (drop (length front)) (sym (cut_in_two test xs)) ∙ drop-append_seam front back

  front_is : (place behind : ℕ) → behind ≡ length back → place ≡ length xs - behind → take place xs ≡ front
  front_is place behind counted here =
      ap (λ n. take n xs) (front_length place behind counted here) ∙ ap (take (length front)) (sym (cut_in_two test xs)) ∙ take-append_seam front back

  pub put_between : (place behind capacity : ℕ) (q1 q2 q3 : Buffer X) (x : X) → behind ≡ length back → place ≡ length xs - behind → q1 ≡ buffer (drop place xs ++ take place xs) capacity →
      q2 ≡ buffer (q1.items ++ x ∷ []) q1.capacity → q3 ≡ buffer (drop behind q2.items ++ take behind q2.items) q2.capacity → q3 ≡ buffer (front ++ x ∷ back) capacity
  put_between place behind capacity q1 q2 q3 x counted here turned pushed turned_back =
      let first : q1.items ≡ back ++ front = ap (λ (q : Buffer X). q.items) turned ∙ ap (λ z. z ++ take place xs) (back_is place behind counted here) ∙ ap (λ z. back ++ z) (front_is place behind counted here) in
      let then_all : q2.items ≡ back ++ (front ++ x ∷ []) = ap (λ (q : Buffer X). q.items) pushed ∙ ap (λ z. z ++ x ∷ []) first ∙ append_assoc back front (x ∷ []) in
      let dropped : drop behind q2.items ≡ front ++ x ∷ [] = ap (λ n. drop n q2.items) counted ∙ ap (drop (length back)) then_all ∙ drop-append_seam back (front ++ x ∷ []) in
      let taken : take behind q2.items ≡ back = ap (λ n. take n q2.items) counted ∙ ap (take (length back)) then_all ∙ take-append_seam back (front ++ x ∷ []) in
      turned_back ∙ ap (λ z. buffer z q2.capacity) (ap (λ z. z ++ take behind q2.items) dropped ∙ ap (λ z. (front ++ x ∷ []) ++ z) taken ∙ append_assoc front (x ∷ []) back)
      ∙ ap (buffer (front ++ x ∷ back)) (ap (λ (q : Buffer X). q.capacity) pushed ∙ ap (λ (q : Buffer X). q.capacity) turned)
