-- Words that are numbers, in the place of an operand.
use Rattle.std.proofs.Common.{◌≡◌, ◌⊎◌, inl, inr, ℕ, zero, suc, ◌<◌, ◌≤◌, ◌^◌, Bool, true, false, cond, List, [], ◌∷◌, refl, sym, ap, ◌∙◌, subst, Option, Some, None, arith}
use Rattle.std.specs.Prelude.{codes, bytes_eq, decimal, is_some, unwrap_or}
use Rattle.std.specs.Fmt.{digits}
use Rattle.std.specs.Str.{all_ascii_digits}
use Rattle.std.specs.Str.Parse.{digits_value}
use Rattle.std.proofs.lemmas.Bool.{and_parts, leb-true, not_from_false, ne_eqb, cond-true, cond-false}
use Rattle.job_text.specs.declared.words.UsageKind.{UsageKind}
use Rattle.job_text.specs.declared.words.UsageKind.TheVariants.{MissingOperand, BadValue}
use Rattle.job_text.specs.JobFaults.{number_of}
use Rattle.job_text.specs.Words.{is_operand, whole_number, operand_fault, number_fault}
use Rattle.job_text.proofs.Numbers.{decimal_spelled}
use Rattle.job_text.proofs.SpellingLemmas.{same_bytes, number_decimal, decimal_number}

either : (b : Bool) → (b ≡ true) ⊎ (b ≡ false)
either true = inl refl
either false = inr refl

pub if_none : {A : Type 0} (b : Bool) (x : Option A) (y : A) → cond b x (Some y) ≡ None → (b ≡ true) × (x ≡ None)
if_none true x y is = (refl, is)
if_none false x y is = absurd (cc)

cond_cases : {A : Type 0} (b : Bool) (x y z : A) → cond b x y ≡ z → ((b ≡ true) × (x ≡ z)) ⊎ ((b ≡ false) × (y ≡ z))
cond_cases true x y z is = inl (refl, is)
cond_cases false x y z is = inr (refl, is)

found : (o : Option ℕ) → is_some o ≡ true → (n : ℕ) × (o ≡ Some n)
found None is = absurd (cc)
found (Some n) is = (n, refl)

-- ---- what a word spells, and which word spells a number

zero_spelled : decimal 0 ≡ codes "0"
unfolding digits
zero_spelled = refl

pub whole_decimal : (most n : ℕ) (word : List ℕ) → most < 2 ^ 64 → whole_number most word ≡ Some n → (word ≡ decimal n) × (n ≤ most)
whole_decimal most n word small is = elim (cond_cases (bytes_eq word (codes "0")) (Some 0) (number_of most word) (Some n) is) [
  | inl zero_is ↦
      let none : 0 ≡ n = ap (λ o. unwrap_or o n) zero_is.1 in
      (same_bytes word (codes "0") zero_is.0 ∙ sym zero_spelled ∙ ap decimal none, omega (arith, none))
  | inr other ↦ let read = number_decimal most n word small other.1 in (read.0, read.2)
]

not_zero : (most n : ℕ) (word : List ℕ) → number_of most word ≡ Some n → word ≡ codes "0" → ⊥
not_zero most n word is zero_is = let none : number_of most (codes "0") ≡ Some n = subst (λ w. number_of most w ≡ Some n) zero_is is in cc

pub decimal_whole : (most n : ℕ) → most < 2 ^ 64 → n ≤ most → whole_number most (decimal n) ≡ Some n
decimal_whole most zero small within = ap (whole_number most) zero_spelled
decimal_whole most (suc n) small within =
    let read = decimal_number most (suc n) small (omega arith) within in
    elim (either (bytes_eq (decimal (suc n)) (codes "0"))) [
      | inl same ↦ absurd (not_zero most (suc n) (decimal (suc n)) read (same_bytes (decimal (suc n)) (codes "0") same))
      | inr other ↦ cond-false _ (Some 0) (number_of most (decimal (suc n))) other ∙ read
    ]

pub digits_operand : (word : List ℕ) (n : ℕ) → all_ascii_digits word ≡ true → digits_value 10 word ≡ n → 1 ≤ n → is_operand word ≡ true
digits_operand [] n digits value low = absurd (omega (arith, value, low))
digits_operand (b ∷ word) n digits value low =
    let here = and_parts _ _ (and_parts _ _ digits).0 in
    not_from_false _ (ne_eqb b 45 (λ dash. let least = leb-true 48 b here.0 in omega (arith, least, dash)))

pub decimal_operand : (n : ℕ) → n < 2 ^ 64 → is_operand (decimal n) ≡ true
decimal_operand zero small = ap is_operand zero_spelled
decimal_operand (suc n) small =
    let is = decimal_spelled (suc n) (suc n) small (omega arith) (omega arith) in
    digits_operand (decimal (suc n)) (suc n) is.digits is.value (omega arith)

-- ---- a number in an operand's place

-- What is found where a word stands in an operand's place.
pub number_found : (most n : ℕ) (word : List ℕ) (words behind : List (List ℕ)) → most < 2 ^ 64 → words ≡ word ∷ behind → is_operand word ≡ true → whole_number most word ≡ Some n →
    (words ≡ decimal n ∷ behind) × (n ≤ most) × ((fault : List (List ℕ) → Option UsageKind) → number_fault most fault words ≡ fault behind)
number_found most n word words behind small words_are operand number =
    let read = whole_decimal most n word small number in (
      words_are ∙ ap (λ w. w ∷ behind) read.0,
      read.1,
      λ fault.
          ap (number_fault most fault) words_are
          ∙ cond-true (is_operand word) _ (Some MissingOperand) operand
          ∙ ap (λ o. cond (is_some o) (fault behind) (Some BadValue)) number,
    )

pub no_number : (most : ℕ) (word : List ℕ) (words behind : List (List ℕ)) → words ≡ word ∷ behind → is_operand word ≡ true → whole_number most word ≡ None →
    (fault : List (List ℕ) → Option UsageKind) → number_fault most fault words ≡ Some BadValue
no_number most word words behind words_are operand none fault =
    ap (number_fault most fault) words_are
    ∙ cond-true (is_operand word) _ (Some MissingOperand) operand
    ∙ ap (λ o. cond (is_some o) (fault behind) (Some BadValue)) none

-- A word that is no operand is told whether or not a number is wanted.
pub no_operand : (most : ℕ) (words : List (List ℕ)) (kind : UsageKind) → ((fault : List (List ℕ) → Option UsageKind) → operand_fault fault words ≡ Some kind) →
    (fault : List (List ℕ) → Option UsageKind) → number_fault most fault words ≡ Some kind
no_operand most [] kind is fault = is fault
no_operand most (word ∷ words) kind is fault =
    elim (either (is_operand word)) [
      | inl operand ↦ absurd (let none : None ≡ Some kind = sym (cond-true (is_operand word) None (Some MissingOperand) operand) ∙ is (λ ws. None) in cc)
      | inr none ↦ cond-false (is_operand word) _ (Some MissingOperand) none ∙ sym (cond-false (is_operand word) None (Some MissingOperand) none) ∙ is (λ ws. None)
    ]

pub number_there : (most n : ℕ) (fault : List (List ℕ) → Option UsageKind) (behind : List (List ℕ)) → most < 2 ^ 64 → n ≤ most →
    number_fault most fault (decimal n ∷ behind) ≡ fault behind
number_there most n fault behind small within =
    cond-true (is_operand (decimal n)) _ (Some MissingOperand) (decimal_operand n (omega (arith, small, within)))
    ∙ ap (λ o. cond (is_some o) (fault behind) (Some BadValue)) (decimal_whole most n small within)

-- The words begin with a number, and what is behind it has no fault.
pub record ReadNumber (most : ℕ) (fault : List (List ℕ) → Option UsageKind) (words : List (List ℕ)) : Type 0 where
  pub number : ℕ
  pub behind : List (List ℕ)
  pub words_are : words ≡ decimal number ∷ behind
  pub within : number ≤ most
  pub then : fault behind ≡ None

pub number_named : (most : ℕ) (fault : List (List ℕ) → Option UsageKind) (words : List (List ℕ)) → most < 2 ^ 64 → number_fault most fault words ≡ None → ReadNumber most fault words
number_named most fault [] small is = absurd (cc)
number_named most fault (word ∷ words) small is =
    let operand = if_none (is_operand word) _ MissingOperand is in
    let good = if_none (is_some (whole_number most word)) (fault words) BadValue operand.1 in
    let number = found (whole_number most word) good.0 in
    let read = whole_decimal most number.0 word small number.1 in record {
      number = number.0;
      behind = words;
      words_are = ap (λ w. w ∷ words) read.0;
      within = read.1;
      then = good.1;
    }
