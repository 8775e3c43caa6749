-- What the values that `clap` finds are of a command.
use Rattle.std.proofs.Common.{◌≡◌, ◌∙◌, ◌≤◌, ◌<◌, ◌^◌, ℕ, true, List, [], ◌∷◌, refl, sym, ap, subst, Option, Some, None, Result, Ok, Err, lit<, arith}
use Rattle.std.specs.Prelude.{codes, decimal, option_and_then, unwrap_or}
use Rattle.std.specs.Result.{result_err}
use Rattle.std.proofs.lemmas.Bool.{cond-true}
use Rattle.clap.specs.Words.{Text, first_value, found_of}
use Rattle.clap.specs.declared.parser.ArgMatches.{ArgMatches}
use Rattle.job_text.specs.declared.words.RunOptions.{RunOptions}
use Rattle.job_text.specs.declared.words.UsageKind.{UsageKind}
use Rattle.job_text.specs.declared.words.UsageKind.TheVariants.{MissingOperand}
use Rattle.job_text.specs.JobFaults.{number_of}
use Rattle.job_text.specs.Words.{IsRun, NameLines, is_operand, number_within, run_options, run_fault, no_options_fault, operand_fault, whole_number, number_fault, lines_fault}
use Rattle.job_text.specs.Matches.{Values, value_of, HasValues, run_values, lines_values, options_by}
use Rattle.job_text.proofs.NumberWords.{decimal_whole}
use Rattle.job_text.proofs.ClapOptions.{options_found}

-- what is found where the words have no fault
abbrev pub FindsThere : (List Text → Option UsageKind) → (List Text → Values) → List Text → ArgMatches → Type 0
FindsThere fault values texts found = fault texts ≡ None → HasValues (values texts) found

has_there : (fault : List Text → Option UsageKind) (values : List Text → Values) (texts words : List Text) (found : ArgMatches) → texts ≡ words → fault words ≡ None → FindsThere fault values texts found → HasValues (values words) found
has_there fault values texts words found same none finds = subst (λ ws. HasValues (values ws) found) same (finds (ap fault same ∙ none))

empty_behind : (behind : List Text) → None ≡ no_options_fault behind → behind ≡ []
empty_behind [] none = refl
empty_behind (word ∷ words) none = absurd (cc)

-- ---- `run`

-- the options of two readings of values that agree
same_by : (these those : Text → Option Text) → ((name : Text) → these name ≡ those name) → options_by these ≡ options_by those
same_by these those same =
    let every = ap (option_and_then (number_of 1099511627776)) (same (codes "every")) in
    let segment = ap (λ v. unwrap_or (option_and_then (number_within 64 65536) v) 32768) (same (codes "segment")) in
    let pool = ap (λ v. unwrap_or (option_and_then (number_within 1 16384) v) 2048) (same (codes "pool")) in
    let all : ◌≡◌ {A = RunOptions} (options_by these) (options_by those) = λ i. record { every = every i; segment = segment i; pool = pool i } in
    all

run_has : (texts words behind : List Text) (job : Text) (found : ArgMatches) → texts ≡ words → words ≡ job ∷ behind → is_operand job ≡ true → None ≡ run_fault behind
    → FindsThere (operand_fault run_fault) run_values texts found → HasValues (run_values (job ∷ behind)) found
run_has texts words behind job found same words_are operand none finds =
    has_there (operand_fault run_fault) run_values texts (job ∷ behind) found (same ∙ words_are) (cond-true (is_operand job) (run_fault behind) (Some MissingOperand) operand ∙ sym none) finds

job_found : (behind : List Text) (job : Text) (found : ArgMatches) → HasValues (run_values (job ∷ behind)) found → first_value (found_of found) (codes "job") ≡ Some job
job_found behind job found has = has (codes "job")

run_found : (behind : List Text) (job : Text) (found : ArgMatches) → None ≡ run_fault behind → HasValues (run_values (job ∷ behind)) found → run_options behind ≡ Ok (options_by (first_value (found_of found)))
run_found behind job found none has =
    options_found job behind (sym none)
    ∙ ap (λ options. Ok options) (same_by (value_of (run_values (job ∷ behind))) (first_value (found_of found)) (λ name. sym (has name)))

pub is_run : (texts words behind : List Text) (job named : Text) (options : RunOptions) (found : ArgMatches) → texts ≡ words → words ≡ job ∷ behind → is_operand job ≡ true → None ≡ run_fault behind
    → FindsThere (operand_fault run_fault) run_values texts found → Some named ≡ first_value (found_of found) (codes "job") → options ≡ options_by (first_value (found_of found)) → IsRun (codes "run" ∷ words) named options
is_run texts words behind job named options found same words_are operand none finds name_is options_are =
    let has = run_has texts words behind job found same words_are operand none finds in
    let there : Some named ≡ Some job = name_is ∙ job_found behind job found has in
    let same_job : named ≡ job = cc in record {
      behind = behind;
      words_are = ap (λ ws. codes "run" ∷ ws) (words_are ∙ ap (λ w. w ∷ behind) (sym same_job));
      operand = ap is_operand same_job ∙ operand;
      options_are = run_found behind job found none has ∙ ap (λ o. Ok o) (sym options_are);
    }

-- ---- `gen` and `selfrun`

-- the words are two numbers
pub record AreNumbers (words : List Text) (lines seed : ℕ) : Type 0 where
  pub words_are : words ≡ decimal lines ∷ decimal seed ∷ []
  pub few : lines ≤ 2000000
  pub fits : seed ≤ 18446744073709551615
  pub no_fault : lines_fault words ≡ None

pub are_numbers : (words behind end : List Text) (lines seed : ℕ) → words ≡ decimal lines ∷ behind → behind ≡ decimal seed ∷ end → None ≡ no_options_fault end → lines ≤ 2000000 → seed ≤ 18446744073709551615
    → ((fault : List Text → Option UsageKind) → number_fault 2000000 fault words ≡ fault behind) → ((fault : List Text → Option UsageKind) → number_fault 18446744073709551615 fault behind ≡ fault end) → AreNumbers words lines seed
are_numbers words behind end lines seed first second last few fits lines_read seed_read = record {
  words_are = first ∙ ap (λ ws. decimal lines ∷ ws) (second ∙ ap (λ ws. decimal seed ∷ ws) (empty_behind end last));
  few = few;
  fits = fits;
  no_fault = lines_read (number_fault 18446744073709551615 no_options_fault) ∙ seed_read no_options_fault ∙ sym last;
}

lines_has : (texts words : List Text) (lines seed : ℕ) (found : ArgMatches) → texts ≡ words → AreNumbers words lines seed → FindsThere lines_fault lines_values texts found → HasValues (lines_values (decimal lines ∷ decimal seed ∷ [])) found
lines_has texts words lines seed found same are finds =
    subst (λ ws. HasValues (lines_values ws) found) are.words_are (has_there lines_fault lines_values texts words found same are.no_fault finds)

pub lines_found : (texts words : List Text) (lines seed : ℕ) (found : ArgMatches) → texts ≡ words → AreNumbers words lines seed → FindsThere lines_fault lines_values texts found
    → option_and_then (whole_number 2000000) (first_value (found_of found) (codes "lines")) ≡ Some lines
lines_found texts words lines seed found same are finds =
    ap (option_and_then (whole_number 2000000)) (lines_has texts words lines seed found same are finds (codes "lines")) ∙ decimal_whole 2000000 lines (lit< tt) are.few

pub seed_found : (texts words : List Text) (lines seed : ℕ) (found : ArgMatches) → texts ≡ words → AreNumbers words lines seed → FindsThere lines_fault lines_values texts found
    → option_and_then (whole_number 18446744073709551615) (first_value (found_of found) (codes "seed")) ≡ Some seed
seed_found texts words lines seed found same are finds =
    ap (option_and_then (whole_number 18446744073709551615)) (lines_has texts words lines seed found same are finds (codes "seed")) ∙ decimal_whole 18446744073709551615 seed (lit< tt) are.fits

-- the two numbers that are found are those of the words
pub lines_named : (command : Text) (texts words : List Text) (lines seed some other : ℕ) (found : ArgMatches) → texts ≡ words → AreNumbers words lines seed → FindsThere lines_fault lines_values texts found
    → Some some ≡ option_and_then (whole_number 2000000) (first_value (found_of found) (codes "lines")) → Some other ≡ option_and_then (whole_number 18446744073709551615) (first_value (found_of found) (codes "seed"))
    → NameLines command (command ∷ words) some other
lines_named command texts words lines seed some other found same are finds lines_are seed_is =
    let first : Some some ≡ Some lines = lines_are ∙ lines_found texts words lines seed found same are finds in
    let second : Some other ≡ Some seed = seed_is ∙ seed_found texts words lines seed found same are finds in
    let same_lines : some ≡ lines = cc in
    let same_seed : other ≡ seed = cc in record {
      words_are = ap (λ ws. command ∷ ws) are.words_are ∙ ap (λ n. command ∷ decimal n ∷ decimal seed ∷ []) (sym same_lines) ∙ ap (λ n. command ∷ decimal some ∷ decimal n ∷ []) (sym same_seed);
      few = subst (λ n. n ≤ 2000000) (sym same_lines) are.few;
      fits = let fits = are.fits in omega (arith, fits, same_seed);
    }
