-- What stands where in lists.
use Rattle.std.proofs.Common.{◌≡◌, ℕ, zero, suc, ◌+◌, ◌<◌, List, [], ◌∷◌, ◌++◌, length, take, get_or, refl, ap, subst, ◌∙◌, append-nil, arith}
use Rattle.std.specs.Prelude.{slice_get, Option, Some, None, All}
use Rattle.std.specs.List.{filter_map, cons_option}
use Rattle.std.proofs.lemmas.List.{take_more}
use Rattle.std.proofs.lemmas.List.Elements.{filter_map-append}

pub some_is : {A : Type 0} (x y : A) (m : Option A) → m ≡ Some x → m ≡ Some y → x ≡ y
some_is x y m e f = cc

pub get_there : {A : Type 0} (xs : List A) (i : ℕ) → i < length xs → (x : A) × (slice_get xs i ≡ Some x)
get_there [] i low = absurd (omega arith)
get_there (x ∷ xs) zero low = (x, refl)
get_there (x ∷ xs) (suc i) low = get_there xs i (omega arith)

pub get_or_is : {A : Type 0} (xs : List A) (i : ℕ) (x : A) → slice_get xs i ≡ Some x → get_or xs i x ≡ x
get_or_is [] i x at = absurd (cc)
get_or_is (y ∷ xs) zero x at = cc
get_or_is (y ∷ xs) (suc i) x at = get_or_is xs i x at

-- What was read at a place stands there.
pub read_there : {A : Type 0} (xs : List A) (k : ℕ) (x : A) → k < length xs → x ≡ get_or xs k x → slice_get xs k ≡ Some (get_or xs k x)
read_there [] k x low is = absurd (omega arith)
read_there (y ∷ xs) zero x low is = refl
read_there (y ∷ xs) (suc k) x low is = read_there xs k x (omega arith) is

pub all_at : {A : Type 0} (P : A → Type 0) (xs : List A) (i : ℕ) (x : A) → All P xs → slice_get xs i ≡ Some x → P x
all_at P [] i x all at = absurd (cc)
all_at P (y ∷ xs) zero x all at = let e : y ≡ x = cc in subst P e (all 0 y (omega arith))
all_at P (y ∷ xs) (suc i) x all at = all_at P xs i x (λ k d low. all (suc k) d (omega (arith, low))) at

-- ---- what a function gives of each

module _ {A B : Type 0} (f : A → Option B) where
  abbrev pub GivesAll : List A → Type 0
  GivesAll xs = (i : ℕ) (x : A) → slice_get xs i ≡ Some x → (y : B) × (f x ≡ Some y)

  pub given_many : (xs : List A) → GivesAll xs → length (filter_map f xs) ≡ length xs
  given_many [] all = refl
  given_many (x ∷ xs) all =
      ap (λ o. length (cons_option o (filter_map f xs))) (all 0 x refl).1
      ∙ ap (λ n. suc n) (given_many xs (λ i y at. all (suc i) y at))

  pub given_at : (xs : List A) → GivesAll xs → (i : ℕ) (x : A) (y : B) → slice_get xs i ≡ Some x → f x ≡ Some y → slice_get (filter_map f xs) i ≡ Some y
  given_at [] all i x y at is = absurd (cc)
  given_at (z ∷ xs) all zero x y at is = let e : z ≡ x = cc in ap (λ o. slice_get (cons_option o (filter_map f xs)) 0) (ap f e ∙ is)
  given_at (z ∷ xs) all (suc i) x y at is =
      ap (λ o. slice_get (cons_option o (filter_map f xs)) (suc i)) (all 0 z refl).1
      ∙ given_at xs (λ i y at. all (suc i) y at) i x y at is

  -- One more place.
  module _ (xs : List A) (i : ℕ) (x : A) (low : i < length xs) (at : slice_get xs i ≡ Some x) where
    seam : filter_map f (take (i + 1) xs) ≡ filter_map f (take i xs) ++ cons_option (f x) []
    seam =
        ap (λ l. filter_map f l) (take_more xs i x low)
        ∙ filter_map-append f (take i xs) (get_or xs i x ∷ [])
        ∙ ap (λ (z : A). filter_map f (take i xs) ++ cons_option (f z) []) (get_or_is xs i x at)

    pub given_more : (y : B) → f x ≡ Some y → filter_map f (take (i + 1) xs) ≡ filter_map f (take i xs) ++ y ∷ []
    given_more y is = seam ∙ ap (λ o. filter_map f (take i xs) ++ cons_option o []) is

    pub given_none : f x ≡ None → filter_map f (take (i + 1) xs) ≡ filter_map f (take i xs)
    given_none is = seam ∙ ap (λ o. filter_map f (take i xs) ++ cons_option o []) is ∙ append-nil (filter_map f (take i xs))
