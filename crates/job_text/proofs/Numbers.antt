-- Numbers and their spelling.
use Rattle.std.proofs.Common.{◌≡◌, ◌≢◌, ℕ, ◌<◌, ◌≤◌, ◌^◌, Bool, true, false, cond, not, ◌&&◌, leb, eqb, List, [], ◌∷◌, length, get_or, refl, sym, ap, ◌∙◌, ◌⊎◌, inl, inr, subst, Option, Some, None, Result, Ok, Err, arith}
use Rattle.std.specs.Prelude.{decimal, IsAscii}
use Rattle.std.specs.Bool.{then_some}
use Rattle.std.specs.Result.{OkIff}
use Rattle.std.specs.Str.{all_ascii_digits}
use Rattle.std.specs.Str.Parse.{digits_value, ParsesUnsigned}
use Rattle.std.proofs.lemmas.Bool.{and_parts, and_from, leb-true, le-leb, not_from_false, not-true, ne_eqb, eq-eqb, both_ways, cond-true, cases_lt}
use Rattle.std.proofs.lemmas.Fmt.{decimal-digits_value, digits_value-decimal, digits_decimal, first_decimal, decimal_digit, IsAscii-from_digits}
use Rattle.std.proofs.lemmas.Str.Parse.{IsNumeralModel, numerals_by_value, tells_all_ascii_digits, parse_plain}
use Rattle.job_text.specs.JobFaults.{number_of}

pub own : IsNumeralModel (λ ds. all_ascii_digits ds ≡ true) (digits_value 10)
own = numerals_by_value _ tells_all_ascii_digits

chosen : (b : Bool) (x y : ℕ) → cond b (Some x) None ≡ Some y → (b ≡ true) × (x ≡ y)
chosen true x y is = (refl, cc)
chosen false x y is = absurd (cc)

then_some_cond : (b : Bool) (n : ℕ) → then_some b n ≡ cond b (Some n) None
then_some_cond true n = refl
then_some_cond false n = refl

some_digits : (word : List ℕ) (n : ℕ) → digits_value 10 word ≡ n → 1 ≤ n → 0 < length word
some_digits [] n is low = absurd (omega (arith, is))
some_digits (b ∷ word) n is low = omega arith

-- what a number that is spelled is
pub record IsSpelled (most n : ℕ) (word : List ℕ) : Type 0 where
  pub digits : all_ascii_digits word ≡ true
  pub first : get_or word 0 0 ≢ 48
  pub low : 1 ≤ n
  pub high : n ≤ most
  pub value : digits_value 10 word ≡ n

cases_none : (o : Option ℕ) → (o ≡ None) ⊎ ((n : ℕ) × (o ≡ Some n))
cases_none None = inl refl
cases_none (Some n) = inr (n, refl)

pub number_known : (most n : ℕ) (word : List ℕ) → number_of most word ≡ Some n → IsSpelled most n word
number_known most n word is =
    let v = digits_value 10 word in
    let found = chosen _ _ _ is in
    let parts = and_parts _ (leb v most) found.0 in
    let more = and_parts _ (leb 1 v) parts.0 in
    let front = and_parts (all_ascii_digits word) _ more.0 in
    record {
      digits = front.0;
      first = λ zero. both_ways (eqb (get_or word 0 0) 48) (not-true _ front.1) (eq-eqb _ _ zero);
      low = subst (λ k. 1 ≤ k) found.1 (leb-true 1 v more.1);
      high = subst (λ k. k ≤ most) found.1 (leb-true v most parts.1);
      value = found.1;
    }

pub number_spelled : (most n : ℕ) (word : List ℕ) → IsSpelled most n word → number_of most word ≡ Some n
number_spelled most n word is =
    let v = digits_value 10 word in
    let low : 1 ≤ v = subst (λ k. 1 ≤ k) (sym is.value) is.low in
    let high : v ≤ most = subst (λ k. k ≤ most) (sym is.value) is.high in
    let first : not (eqb (get_or word 0 0) 48) ≡ true = not_from_false _ (ne_eqb _ _ is.first) in
    cond-true _ (Some v) None (and_from _ _ (and_from _ _ (and_from _ _ is.digits first) (le-leb _ _ low)) (le-leb _ _ high)) ∙ ap (λ k. Some k) is.value

-- where no number is spelled
pub number_none : (most : ℕ) (word : List ℕ) → (IsSpelled most (digits_value 10 word) word → ⊥) → number_of most word ≡ None
number_none most word none = elim (cases_none (number_of most word)) [ inl is ↦ is | inr some ↦ absurd (let known = number_known most some.0 word some.1 in none (subst (λ n. IsSpelled most n word) (sym known.value) known)) ]

-- ---- decimals

pub spelled_decimal : (most n : ℕ) (word : List ℕ) → most < 2 ^ 64 → IsSpelled most n word → word ≡ decimal n
spelled_decimal most n word small is =
    let v = digits_value 10 word in
    let value : v ≡ n = is.value in
    sym (decimal-digits_value own word is.digits (some_digits word n is.value is.low) (λ zero. absurd (is.first zero)) (let low = is.low in let high = is.high in omega (arith, value))) ∙ ap decimal value

pub decimal_spelled : (most n : ℕ) → most < 2 ^ 64 → 1 ≤ n → n ≤ most → IsSpelled most n (decimal n)
decimal_spelled most n small low high = record {
  digits = digits_decimal own n (omega arith);
  first = λ zero. let above = first_decimal n (omega arith) (omega arith) in omega (arith, above, zero);
  low = low;
  high = high;
  value = digits_value-decimal own n (omega arith);
}

-- ---- what parsing tells

pub spelled_ascii : (most n : ℕ) (word : List ℕ) → IsSpelled most n word → IsAscii word
spelled_ascii most n word is = IsAscii-from_digits word (own.to word is.digits)

first_of_some : (word : List ℕ) → 49 ≤ get_or word 0 0 → 0 < length word
first_of_some [] first = absurd (omega arith)
first_of_some (b ∷ word) first = omega arith

positive : (word : List ℕ) → all_ascii_digits word ≡ true → 49 ≤ get_or word 0 0 → 1 ≤ digits_value 10 word
positive word digits first = elim (cases_lt 0 (digits_value 10 word)) [
  | inl low ↦ low
  | inr zero ↦ absurd (
      let none : digits_value 10 word ≡ 0 = omega arith in
      let same : decimal (digits_value 10 word) ≡ word = decimal-digits_value own word digits (first_of_some word first) (λ is. absurd (omega (arith, is))) (omega (arith, none)) in
      let is : get_or word 0 0 ≡ 48 = ap (λ w. get_or w 0 0) (sym same ∙ ap decimal none ∙ decimal_digit 0 (omega arith)) in omega (arith, is))
]

parsed_plain : {E : Type 0} (word text : List ℕ) (parsed : Result ℕ E) → text ≡ word → ParsesUnsigned 64 10 text parsed → 49 ≤ get_or word 0 0 → OkIff parsed ((all_ascii_digits word ≡ true) × (0 < length word) × (digits_value 10 word < 2 ^ 64)) (digits_value 10 word)
parsed_plain word text parsed same parses first = parse_plain own 64 word parsed (subst (λ t. ParsesUnsigned 64 10 t parsed) same parses) (λ plus. omega (arith, plus))

three_true : {A : Type 0} (a b c d : Bool) (x y : A) → a ≡ true → b ≡ true → c ≡ true → cond d x y ≡ cond (a && b && c && d) x y
three_true a b c d x y a_is b_is c_is = rw (a_is, b_is, c_is) refl

pub number_parsed : {E : Type 0} (most n : ℕ) (word text : List ℕ) (parsed : Result ℕ E) → text ≡ word → ParsesUnsigned 64 10 text parsed → 49 ≤ get_or word 0 0 → parsed ≡ Ok n → then_some (leb n most) n ≡ number_of most word
number_parsed {E} most n word text parsed same parses first is =
    let v = digits_value 10 word in
    let told : OkIff {T = ℕ} {E = E} (Ok n) ((all_ascii_digits word ≡ true) × (0 < length word) × (v < 2 ^ 64)) v = subst (λ (r : Result ℕ E). OkIff r ((all_ascii_digits word ≡ true) × (0 < length word) × (v < 2 ^ 64)) v) is (parsed_plain word text parsed same parses first) in
    let not_zero : not (eqb (get_or word 0 0) 48) ≡ true = not_from_false _ (ne_eqb _ _ (λ zero. omega (arith, zero))) in
    then_some_cond (leb n most) n ∙ ap (λ k. cond (leb k most) (Some k) None) told.1
    ∙ three_true _ _ _ (leb v most) (Some v) None told.0.0 not_zero (le-leb _ _ (positive word told.0.0 first))

pub not_parsed : {E : Type 0} (most : ℕ) (word text : List ℕ) (parsed : Result ℕ E) (e : E) → text ≡ word → most < 2 ^ 64 → ParsesUnsigned 64 10 text parsed → 49 ≤ get_or word 0 0 → parsed ≡ Err e → number_of most word ≡ None
not_parsed {E} most word text parsed e same small parses first is =
    let v = digits_value 10 word in
    let told : OkIff {T = ℕ} {E = E} (Err e) ((all_ascii_digits word ≡ true) × (0 < length word) × (v < 2 ^ 64)) v = subst (λ (r : Result ℕ E). OkIff r ((all_ascii_digits word ≡ true) × (0 < length word) × (v < 2 ^ 64)) v) is (parsed_plain word text parsed same parses first) in
    number_none most word (λ spelled. let high = spelled.high in told (spelled.digits, first_of_some word first, omega arith))
