-- Lines that are made of a seed: how many, and of two words each.
use Rattle.std.proofs.Common.{◌≡◌, ℕ, zero, suc, ◌/◌, ◌%◌, ◌<◌, ◌≤◌, true, false, not, cond, eqb, List, [], ◌∷◌, ◌++◌, length, refl, sym, ap, subst, ◌∙◌, arith, append_assoc, length-append}
use Rattle.std.specs.Prelude.{All, decimal, filter, ◌^◌}
use Rattle.std.specs.List.{AllByRecursion}
use Rattle.std.specs.Str.Parse.{AllDigits}
use Rattle.std.proofs.lemmas.Bool.{ne_eqb, cond-false}
use Rattle.std.proofs.lemmas.Fmt.{decimal_is_IsNumeral}
use Rattle.std.proofs.lemmas.Str.Parse.{digit_from_value}
use Rattle.std.proofs.lemmas.List.{append-nil}
use Rattle.std.proofs.lemmas.List.Elements.{All-from_recursion}
use Rattle.std.proofs.lemmas.List.Splits.{slice_split_at, slice_split_none}
use Rattle.flow_defs.specs.declared.job.StageKind.TheVariants.{Words}
use Rattle.flow_defs.specs.Lines.{onto_first_line, lines}
use Rattle.flow_defs.specs.Stages.{given, pieces}
use Rattle.line_generator.specs.Generated.{number_at, line_text, generated}
use Rattle.line_generator.specs.Theorems.{GeneratedAreCounted, EachHasTwoWords}

-- ---- no byte of a number is a space or a newline

abbrev IsHigh : ℕ → Type 0
IsHigh b = 48 ≤ b

from_digits : (ds : List ℕ) → AllDigits 10 ds → AllByRecursion IsHigh ds
from_digits [] are = tt
from_digits (d ∷ ds) are = ((let low = digit_from_value d are.0 in omega (arith, low)), from_digits ds are.1)

high_number : (n : ℕ) → n < 2 ^ 64 → AllByRecursion IsHigh (decimal n)
high_number n small = from_digits (decimal n) (decimal_is_IsNumeral n small).0.1

-- ---- the two words of a line

first_word : ℕ → List ℕ
first_word x = 119 ∷ decimal (x / 2 ^ 33 % 1000)

second_word : ℕ → List ℕ
second_word x = 119 ∷ decimal (x / 2 ^ 48 % 100)

abbrev both_words : ℕ → List ℕ
both_words x = first_word x ++ 32 ∷ second_word x

first_high : (x : ℕ) → AllByRecursion IsHigh (first_word x)
unfolding first_word
first_high x = (omega arith, high_number (x / 2 ^ 33 % 1000) (omega arith))

second_high : (x : ℕ) → AllByRecursion IsHigh (second_word x)
unfolding second_word
second_high x = (omega arith, high_number (x / 2 ^ 48 % 100) (omega arith))

line_is : (x : ℕ) → line_text x ≡ both_words x ++ 10 ∷ []
unfolding first_word second_word
line_is x = refl

some_first : (x : ℕ) → 1 ≤ length (first_word x)
unfolding first_word
some_first x = omega arith

some_second : (x : ℕ) → 1 ≤ length (second_word x)
unfolding second_word
some_second x = omega arith

-- ---- a stage cuts a line into these

no_space : (bytes : List ℕ) → AllByRecursion IsHigh bytes → AllByRecursion (λ b. eqb b 32 ≡ false) bytes
no_space [] high = tt
no_space (b ∷ bytes) high = (ne_eqb b 32 (λ e. let h = high.0 in omega (arith, e, h)), no_space bytes high.1)

no_spaces : (bytes : List ℕ) → AllByRecursion IsHigh bytes → All (λ b. eqb b 32 ≡ false) bytes
no_spaces bytes high = All-from_recursion (λ b. eqb b 32 ≡ false) bytes (no_space bytes high)

cut_in_two : (first second : List ℕ) → AllByRecursion IsHigh first → AllByRecursion IsHigh second → pieces 32 (first ++ 32 ∷ second) ≡ first ∷ second ∷ []
cut_in_two first second high high_too =
    slice_split_at (λ b. eqb b 32) first 32 second (no_spaces first high) refl
    ∙ ap (λ ps. first ∷ ps) (slice_split_none (λ b. eqb b 32) second (no_spaces second high_too))

is_word : (bytes : List ℕ) → 1 ≤ length bytes → not (eqb (length bytes) 0) ≡ true
is_word bytes some = ap not (ne_eqb (length bytes) 0 (λ e. omega (arith, e, some)))

both_kept : (first second : List ℕ) → 1 ≤ length first → 1 ≤ length second → length (filter (λ piece. not (eqb (length piece) 0)) (first ∷ second ∷ [])) ≡ 2
both_kept first second some some_too =
    ap (λ b. length (cond b (first ∷ filter (λ piece. not (eqb (length piece) 0)) (second ∷ [])) (filter (λ piece. not (eqb (length piece) 0)) (second ∷ [])))) (is_word first some)
    ∙ ap (λ b. length (first ∷ cond b (second ∷ []) [])) (is_word second some_too)

two_words : (x : ℕ) → length (given Words [] (both_words x)) ≡ 2
two_words x =
    ap (λ ps. length (filter (λ piece. not (eqb (length piece) 0)) ps)) (cut_in_two (first_word x) (second_word x) (first_high x) (second_high x))
    ∙ both_kept (first_word x) (second_word x) (some_first x) (some_second x)

-- ---- the lines

abbrev IsNoEnd : ℕ → Type 0
IsNoEnd b = 11 ≤ b

no_end : (bytes : List ℕ) → AllByRecursion IsHigh bytes → AllByRecursion IsNoEnd bytes
no_end [] high = tt
no_end (b ∷ bytes) high = ((let h = high.0 in omega (arith, h)), no_end bytes high.1)

all_both : (xs ys : List ℕ) → AllByRecursion IsNoEnd xs → AllByRecursion IsNoEnd ys → AllByRecursion IsNoEnd (xs ++ ys)
all_both [] ys first second = second
all_both (x ∷ xs) ys first second = (first.0, all_both xs ys first.1 second)

words_end : (x : ℕ) → AllByRecursion IsNoEnd (both_words x)
words_end x = all_both (first_word x) (32 ∷ second_word x) (no_end (first_word x) (first_high x)) (omega arith, no_end (second_word x) (second_high x))

first_line : (bytes rest : List ℕ) → AllByRecursion IsNoEnd bytes → lines (bytes ++ 10 ∷ rest) ≡ bytes ∷ lines rest
first_line [] rest ends = refl
first_line (b ∷ bytes) rest ends =
    cond-false (eqb b 10) ([] ∷ lines (bytes ++ 10 ∷ rest)) (onto_first_line (b ∷ []) (lines (bytes ++ 10 ∷ rest))) (ne_eqb b 10 (λ e. let h = ends.0 in omega (arith, e, h)))
    ∙ ap (onto_first_line (b ∷ [])) (first_line bytes rest ends.1)

made : ℕ → ℕ → List (List ℕ)
made seed zero = []
made seed (suc n) = made seed n ++ both_words (number_at seed (suc n)) ∷ []

made_before : (seed n : ℕ) (rest : List ℕ) → lines (generated seed n ++ rest) ≡ made seed n ++ lines rest
unfolding made
made_before seed zero rest = refl
made_before seed (suc n) rest =
    let x = number_at seed (suc n) in
    ap lines (append_assoc (generated seed n) (line_text x) rest)
    ∙ made_before seed n (line_text x ++ rest)
    ∙ ap (λ bytes. made seed n ++ lines (bytes ++ rest)) (line_is x)
    ∙ ap (λ bytes. made seed n ++ lines bytes) (append_assoc (both_words x) (10 ∷ []) rest)
    ∙ ap (λ ls. made seed n ++ ls) (first_line (both_words x) rest (words_end x))
    ∙ sym (append_assoc (made seed n) (both_words x ∷ []) (lines rest))

made_are : (seed n : ℕ) → lines (generated seed n) ≡ made seed n
made_are seed n = ap lines (sym (append-nil (generated seed n))) ∙ made_before seed n [] ∙ append-nil (made seed n)

many_made : (seed n : ℕ) → length (made seed n) ≡ n
unfolding made
many_made seed zero = refl
many_made seed (suc n) = let both = length-append (made seed n) (both_words (number_at seed (suc n)) ∷ []) in let deep = many_made seed n in omega (arith, both, deep)

abbrev HasTwo : List ℕ → Type 0
HasTwo line = length (given Words [] line) ≡ 2

one_more : (ls : List (List ℕ)) (line : List ℕ) → AllByRecursion HasTwo ls → HasTwo line → AllByRecursion HasTwo (ls ++ line ∷ [])
one_more [] line all this = (this, tt)
one_more (l ∷ ls) line all this = (all.0, one_more ls line all.1 this)

two_each : (seed n : ℕ) → AllByRecursion HasTwo (made seed n)
unfolding made
two_each seed zero = tt
two_each seed (suc n) = one_more (made seed n) (both_words (number_at seed (suc n))) (two_each seed n) (two_words (number_at seed (suc n)))

pub generated_are_counted : GeneratedAreCounted
generated_are_counted seed n = ap length (made_are seed n) ∙ many_made seed n

pub each_has_two_words : EachHasTwoWords
each_has_two_words seed n = subst (AllByRecursion HasTwo) (sym (made_are seed n)) (two_each seed n)
