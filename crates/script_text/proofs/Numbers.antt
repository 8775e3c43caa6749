-- Numbers and their spelling.
use Rattle.std.proofs.Common.{◌≡◌, ℕ, ◌<◌, ◌≤◌, ◌^◌, Bool, true, false, cond, ◌&&◌, leb, List, refl, sym, ap, ◌∙◌, ◌⊎◌, inl, inr, subst, Option, Some, None, arith}
use Rattle.std.specs.Prelude.{decimal, bytes_eq}
use Rattle.std.specs.Str.Parse.{digits_value}
use Rattle.std.proofs.lemmas.Bool.{and_parts, and_from, leb-true, le-leb, cond-true}
use Rattle.std.proofs.lemmas.Fmt.{decimal_is_IsNumeral, decimal_injective}
use Rattle.std.proofs.lemmas.Slice.Eq.{bytes_eq-Decides}
use Rattle.std.proofs.lemmas.Option.{same_Some}
use Rattle.script_text.specs.Reading.{number_of}

pub same_bytes : (a b : List ℕ) → bytes_eq a b ≡ true → a ≡ b
same_bytes a b is = (bytes_eq-Decides a b).0 is

pub bytes_same : (a b : List ℕ) → a ≡ b → bytes_eq a b ≡ true
bytes_same a b is = (bytes_eq-Decides a b).1 is

chosen : (b : Bool) (x y : ℕ) → cond b (Some x) None ≡ Some y → (b ≡ true) × (x ≡ y)
chosen true x y is = (refl, same_Some x y is)
chosen false x y is = absurd (cc)

-- a word that is found to spell a number
pub number_known : (least most n : ℕ) (word : List ℕ) → number_of least most word ≡ Some n → (word ≡ decimal n) × (least ≤ n) × (n ≤ most)
number_known least most n word is =
    let v = digits_value 10 word in
    let found = chosen _ _ _ is in
    let parts = and_parts (bytes_eq word (decimal v) && leb least v) (leb v most) found.0 in
    let more = and_parts (bytes_eq word (decimal v)) (leb least v) parts.0 in (
      same_bytes _ _ more.0 ∙ ap decimal found.1,
      subst (λ k. least ≤ k) found.1 (leb-true least v more.1),
      subst (λ k. k ≤ most) found.1 (leb-true v most parts.1),
    )

value_of : (n : ℕ) → n < 2 ^ 64 → digits_value 10 (decimal n) ≡ n
value_of n small = (decimal_is_IsNumeral n small).1

-- a number within the bounds is found in its spelling
pub number_spelled : (least most n : ℕ) → n < 2 ^ 64 → least ≤ n → n ≤ most → number_of least most (decimal n) ≡ Some n
number_spelled least most n small low high =
    ap (λ v. cond (bytes_eq (decimal n) (decimal v) && leb least v && leb v most) (Some v) None) (value_of n small)
    ∙ cond-true _ (Some n) None (and_from _ _ (and_from _ _ (bytes_same (decimal n) (decimal n) refl) (le-leb _ _ low)) (le-leb _ _ high))

pub number_cases : (o : Option ℕ) → (o ≡ None) ⊎ ((n : ℕ) × (o ≡ Some n))
number_cases None = inl refl
number_cases (Some n) = inr (n, refl)

module _ (least most : ℕ) (word : List ℕ) (small : most < 2 ^ 64) where
  found_none : ((n : ℕ) → n < 2 ^ 64 → word ≡ decimal n → least ≤ n → n ≤ most → ⊥) → number_of least most word ≡ None
  found_none none = elim (number_cases (number_of least most word)) [
    | inl is ↦ is
    | inr some ↦ absurd (let known = number_known least most some.0 word some.1 in let high = known.2 in none some.0 (omega (arith, high, small)) known.0 known.1 high)
  ]

  -- a word that spells no number
  pub number_none : ((n : ℕ) → n < 2 ^ 64 → word ≡ decimal n → ⊥) → number_of least most word ≡ None
  number_none none = found_none (λ n fits is low high. none n fits is)

  -- a word that spells one outside the bounds
  pub number_outside : (n : ℕ) → n < 2 ^ 64 → word ≡ decimal n → (least ≤ n → n ≤ most → ⊥) → number_of least most word ≡ None
  number_outside n fits is outside = found_none (λ k k_fits k_is low high. let same : k ≡ n = decimal_injective k n k_fits fits (sym k_is ∙ is) in outside (subst (λ j. least ≤ j) same low) (subst (λ j. j ≤ most) same high))
