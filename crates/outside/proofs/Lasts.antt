-- The last item of a list.
use Rattle.std.proofs.Common.{◌≡◌, ℕ, ◌-◌, List, [], ◌∷◌, ◌++◌, Option, Some, None, length, map, refl, sym, ap, ◌∙◌, arith}
use Rattle.std.specs.Prelude.{slice_get}
use Rattle.std.specs.List.{last_or}

module _ {A : Type 0} where
  pub last_at_end : (o : Option A) (xs : List A) (x : A) → last_or o (xs ++ x ∷ []) ≡ Some x
  last_at_end o [] x = refl
  last_at_end o (y ∷ ys) x = last_at_end (Some y) ys x

  last_behind : (x : A) (xs : List A) → slice_get (x ∷ xs) (length xs) ≡ last_or (Some x) xs
  last_behind x [] = refl
  last_behind x (y ∷ ys) = last_behind y ys

  pub last_by_place : (xs : List A) → slice_get xs (length xs - 1) ≡ last_or None xs
  last_by_place [] = refl
  last_by_place (x ∷ xs) =
      let place : length (x ∷ xs) - 1 ≡ length xs = omega arith in
      ap (slice_get (x ∷ xs)) place ∙ last_behind x xs

module _ {A B : Type 0} (f : A → B) where
  last_mapped_from : (o x : A) (xs : List A) → last_or (Some o) xs ≡ Some x → last_or (Some (f o)) (map f xs) ≡ Some (f x)
  last_mapped_from o x [] is = let same : o ≡ x = cc in ap (λ y. Some (f y)) same
  last_mapped_from o x (y ∷ ys) is = last_mapped_from y x ys is

  pub last_mapped : (x : A) (xs : List A) → last_or None xs ≡ Some x → last_or None (map f xs) ≡ Some (f x)
  last_mapped x [] is = absurd (cc)
  last_mapped x (y ∷ ys) is = last_mapped_from y x ys is

  pub last_mapped_at_end : (o : Option B) (xs : List A) (x : A) → last_or o (map f (xs ++ x ∷ [])) ≡ Some (f x)
  last_mapped_at_end o [] x = refl
  last_mapped_at_end o (y ∷ ys) x = last_mapped_at_end (Some (f y)) ys x
