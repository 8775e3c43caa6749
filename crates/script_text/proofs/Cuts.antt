-- A line, cut behind its first word.
use Rattle.std.proofs.Common.{◌≡◌, ℕ, Bool, true, false, cond, not, eqb, Some, None, Option, List, [], ◌∷◌, ◌++◌, refl, ap, sym, ◌∙◌, arith}
use Rattle.std.specs.List.{list_all}
use Rattle.std.specs.Str.{all_ascii_digits}
use Rattle.std.specs.Prelude.{decimal, ◌<◌, ◌^◌}
use Rattle.std.proofs.lemmas.Bool.{and_from, and_parts, not_from_false, not-true, ne_eqb, eqb-true, leb-true}
use Rattle.std.proofs.lemmas.Fmt.{digits_decimal}
use Rattle.std.proofs.lemmas.Str.Parse.{IsNumeralModel, numerals_by_value, tells_all_ascii_digits}
use Rattle.std.specs.Str.Parse.{digits_value}
use Rattle.script_text.specs.Reading.{cut}

abbrev pub Cut : Type 0
Cut = List ℕ × Option (List ℕ)

abbrev pub step : ℕ → List ℕ → Bool → Cut
step b bytes test = cond test ([], Some bytes) (b ∷ (cut bytes).0, (cut bytes).1)

pub cut_hit : (b : ℕ) (bytes : List ℕ) → eqb b 32 ≡ true → cut (b ∷ bytes) ≡ step b bytes true
cut_hit b bytes is = ap (step b bytes) is

pub cut_miss : (b : ℕ) (bytes : List ℕ) → eqb b 32 ≡ false → cut (b ∷ bytes) ≡ step b bytes false
cut_miss b bytes is = ap (step b bytes) is

-- ---- a line is what it is cut into

abbrev pub joined : Cut → List ℕ
joined (word, None) = word
joined (word, Some rest) = word ++ 32 ∷ rest

joined_more : (b : ℕ) (parts : Cut) → joined (b ∷ parts.0, parts.1) ≡ b ∷ joined parts
joined_more b (word, None) = refl
joined_more b (word, Some rest) = refl

joined_step : (b : ℕ) (bytes : List ℕ) (test : Bool) → eqb b 32 ≡ test → joined (cut bytes) ≡ bytes → joined (step b bytes test) ≡ b ∷ bytes
joined_step b bytes true is more = ap (λ c. c ∷ bytes) (sym (eqb-true b 32 is))
joined_step b bytes false is more = joined_more b (cut bytes) ∙ ap (λ r. b ∷ r) more

pub joined_cut : (line : List ℕ) → joined (cut line) ≡ line
joined_cut [] = refl
joined_cut (b ∷ bytes) = joined_step b bytes (eqb b 32) refl (joined_cut bytes)

-- ---- words without spaces

abbrev pub has_no_space : List ℕ → Bool
has_no_space word = list_all (λ b. not (eqb b 32)) word

pub cut_behind : (word rest : List ℕ) → has_no_space word ≡ true → cut (word ++ 32 ∷ rest) ≡ (word, Some rest)
cut_behind [] rest none = refl
cut_behind (b ∷ word) rest none =
    let parts = and_parts (not (eqb b 32)) (has_no_space word) none in
    let more : cut (word ++ 32 ∷ rest) ≡ (word, Some rest) = cut_behind word rest parts.1 in
    cut_miss b (word ++ 32 ∷ rest) (not-true _ parts.0) ∙ ap (λ (c : Cut). let d : Cut = (b ∷ c.0, c.1) in d) more

pub cut_whole : (word : List ℕ) → has_no_space word ≡ true → cut word ≡ (word, None)
cut_whole [] none = refl
cut_whole (b ∷ word) none =
    let parts = and_parts (not (eqb b 32)) (has_no_space word) none in
    let more : cut word ≡ (word, None) = cut_whole word parts.1 in
    cut_miss b word (not-true _ parts.0) ∙ ap (λ (c : Cut). let d : Cut = (b ∷ c.0, c.1) in d) more

own : IsNumeralModel (λ ds. all_ascii_digits ds ≡ true) (digits_value 10)
own = numerals_by_value _ tells_all_ascii_digits

digits_no_space : (word : List ℕ) → all_ascii_digits word ≡ true → has_no_space word ≡ true
digits_no_space [] is = refl
digits_no_space (b ∷ word) is =
    let parts = and_parts _ _ is in
    let here = and_parts _ _ parts.0 in
    and_from _ _ (not_from_false _ (ne_eqb b 32 (λ space. let low = leb-true 48 b here.0 in omega (arith, low, space)))) (digits_no_space word parts.1)

pub decimal_no_space : (n : ℕ) → n < 2 ^ 64 → has_no_space (decimal n) ≡ true
decimal_no_space n small = digits_no_space (decimal n) (digits_decimal own n small)
