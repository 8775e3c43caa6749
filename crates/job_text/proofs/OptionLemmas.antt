-- The options of a run: how they are read from the left, and that what they give is in its range.
use Rattle.std.proofs.Common.{◌≡◌, ℕ, ◌≤◌, ◌-◌, Bool, true, false, cond, leb, List, [], ◌∷◌, length, get_or, take, drop, take_all, refl, sym, ap, ◌∙◌, subst, Option, Some, None, Result, Ok, Err, arith}
use Rattle.std.specs.Prelude.{codes, bytes_eq, IfSome, option_map, option_and_then, ok_or, unwrap_or}
use Rattle.std.proofs.lemmas.Bool.{leb-true}
use Rattle.job_text.specs.declared.words.RunOptions.{RunOptions}
use Rattle.job_text.specs.declared.words.UsageKind.{UsageKind}
use Rattle.job_text.specs.declared.words.UsageKind.TheVariants.{BadValue, MissingValue}
use Rattle.job_text.specs.declared.options.RunOption.{RunOption}
use Rattle.job_text.specs.declared.options.RunOption.TheVariants.{Every, Mode, Segment, Pool, Links}
use Rattle.job_text.specs.declared.options.Given.{Given}
use Rattle.job_text.specs.JobFaults.{number_of}
use Rattle.job_text.specs.Words.{number_within, nothing, with_value, option_behind, and_then, given_from, with_defaults, run_options, HasRange}
use Rattle.job_text.proofs.Numbers.{number_known}

-- ---- words from the left

-- the words behind the first
abbrev pub behind_first : List (List ℕ) → List (List ℕ)
behind_first words = take (length words - 1) (drop 1 words)

pub first_of : (words : List (List ℕ)) (word : List ℕ) → 1 ≤ length words → word ≡ get_or words 0 word → words ≡ word ∷ behind_first words
first_of [] word some first = absurd (omega arith)
first_of (w ∷ words) word some first = ap (λ x. x ∷ words) (sym first) ∙ ap (λ rest. word ∷ rest) (sym (take_all (length (w ∷ words) - 1) words (omega arith)))

-- an option and its value are read: what is given from here on
read_one : (given next : Given) (option : RunOption) (word value : List ℕ) (words : List (List ℕ)) → option_behind given word ≡ Ok option → ok_or (with_value given option value) BadValue ≡ Ok next → given_from given (word ∷ value ∷ words) ≡ given_from next words
read_one given next option word value words option_is value_is =
    ap (λ o. and_then o (λ k. and_then (ok_or (with_value given k value) BadValue) (λ more. given_from more words))) option_is
    ∙ ap (λ v. and_then v (λ more. given_from more words)) value_is

pub goes_on : (given next : Given) (option : RunOption) (words : List (List ℕ)) (word value : List ℕ) → 1 ≤ length words → word ≡ get_or words 0 word → 1 ≤ length (behind_first words) → value ≡ get_or (behind_first words) 0 value
    → option_behind given word ≡ Ok option → ok_or (with_value given option value) BadValue ≡ Ok next → given_from given words ≡ given_from next (behind_first (behind_first words))
goes_on given next option words word value some first more second option_is value_is =
    ap (given_from given) (first_of words word some first ∙ ap (λ rest. word ∷ rest) (first_of (behind_first words) value more second))
    ∙ read_one given next option word value (behind_first (behind_first words)) option_is value_is

-- ---- numbers in a range

some_if : (b : Bool) (m n : ℕ) → cond b (Some m) None ≡ Some n → (b ≡ true) × (m ≡ n)
some_if true m n is = (refl, cc)
some_if false m n is = absurd (cc)

pub within_range : (least most n : ℕ) (word : List ℕ) → number_within least most word ≡ Some n → (least ≤ n) × (n ≤ most)
within_range least most n word is = by_number (number_of most word) refl is
  where
    by_number : (o : Option ℕ) → number_of most word ≡ o → option_and_then (λ m. cond (leb least m) (Some m) None) o ≡ Some n → (least ≤ n) × (n ≤ most)
    by_number None number is = absurd (cc)
    by_number (Some m) number is =
        let found : (leb least m ≡ true) × (m ≡ n) = some_if (leb least m) m n is in
        subst (λ k. (least ≤ k) × (k ≤ most)) found.1 (leb-true least m found.0, (number_known most m word number).high)

-- ---- what the options give

-- what is given so far is in its ranges
pub record AreWithin (given : Given) : Type 0 where
  pub every : IfSome given.every (λ n. (1 ≤ n) × (n ≤ 1099511627776))
  pub segment : IfSome given.segment (λ n. (64 ≤ n) × (n ≤ 65536))
  pub pool : IfSome given.pool (λ n. (1 ≤ n) × (n ≤ 16384))

nothing_within : AreWithin nothing
nothing_within = record { every = tt; segment = tt; pool = tt }

-- an option and its value: what is given then, and what the words behind give
pub record TakesOption (given more : Given) (word value : List ℕ) (words : List (List ℕ)) : Type 0 where
  pub option : RunOption
  pub option_is : option_behind given word ≡ Ok option
  pub next : Given
  pub next_is : with_value given option value ≡ Some next
  pub rest : given_from next words ≡ Ok more

pub taken : (given more : Given) (word value : List ℕ) (words : List (List ℕ)) → given_from given (word ∷ value ∷ words) ≡ Ok more → TakesOption given more word value words
taken given more word value words is = by_option (option_behind given word) refl is
  where
    by_value : (option : RunOption) → option_behind given word ≡ Ok option → (v : Option Given) → with_value given option value ≡ v → and_then (ok_or v BadValue) (λ next. given_from next words) ≡ Ok more → TakesOption given more word value words
    by_value option option_is None value_is is = absurd (cc)
    by_value option option_is (Some next) value_is is = record { option = option; option_is = option_is; next = next; next_is = value_is; rest = is }

    by_option : (o : Result RunOption UsageKind) → option_behind given word ≡ o → and_then o (λ option. and_then (ok_or (with_value given option value) BadValue) (λ next. given_from next words)) ≡ Ok more → TakesOption given more word value words
    by_option (Err kind) option_is is = absurd (cc)
    by_option (Ok option) option_is is = by_value option option_is (with_value given option value) refl is

pub no_value : (given more : Given) (word : List ℕ) → given_from given (word ∷ []) ≡ Ok more → ⊥
no_value given more word is = by_option (option_behind given word) is
  where
    by_option : (o : Result RunOption UsageKind) → and_then {B = Given} o (λ option. Err MissingValue) ≡ Ok more → ⊥
    by_option (Err kind) is = cc
    by_option (Ok option) is = cc

-- a value of an option is in its range
value_within : (given next : Given) (option : RunOption) (value : List ℕ) → AreWithin given → with_value given option value ≡ Some next → AreWithin next
value_within given next Every value within is = by_number (number_of 1099511627776 value) refl is
  where
    by_number : (o : Option ℕ) → number_of 1099511627776 value ≡ o → option_map (λ n. record given { every = Some n }) o ≡ Some next → AreWithin next
    by_number None number is = absurd (cc)
    by_number (Some n) number is =
        let same : record given { every = Some n } ≡ next = cc in
        let known = number_known 1099511627776 n value number in
        subst AreWithin same (record { every = (known.low, known.high); segment = within.segment; pool = within.pool })
value_within given next Mode value within is = by_word (bytes_eq value (codes "inline")) is
  where
    by_word : (b : Bool) → cond b (Some (record given { mode = true })) None ≡ Some next → AreWithin next
    by_word false is = absurd (cc)
    by_word true is =
        let same : record given { mode = true } ≡ next = cc in
        subst AreWithin same (record { every = within.every; segment = within.segment; pool = within.pool })
value_within given next Segment value within is = by_number (number_within 64 65536 value) refl is
  where
    by_number : (o : Option ℕ) → number_within 64 65536 value ≡ o → option_map (λ n. record given { segment = Some n }) o ≡ Some next → AreWithin next
    by_number None number is = absurd (cc)
    by_number (Some n) number is =
        let same : record given { segment = Some n } ≡ next = cc in
        subst AreWithin same (record { every = within.every; segment = within_range 64 65536 n value number; pool = within.pool })
value_within given next Pool value within is = by_number (number_within 1 16384 value) refl is
  where
    by_number : (o : Option ℕ) → number_within 1 16384 value ≡ o → option_map (λ n. record given { pool = Some n }) o ≡ Some next → AreWithin next
    by_number None number is = absurd (cc)
    by_number (Some n) number is =
        let same : record given { pool = Some n } ≡ next = cc in
        subst AreWithin same (record { every = within.every; segment = within.segment; pool = within_range 1 16384 n value number })
value_within given next Links value within is = by_word (bytes_eq value (codes "memory")) is
  where
    by_word : (b : Bool) → cond b (Some (record given { links = true })) None ≡ Some next → AreWithin next
    by_word false is = absurd (cc)
    by_word true is =
        let same : record given { links = true } ≡ next = cc in
        subst AreWithin same (record { every = within.every; segment = within.segment; pool = within.pool })

given_within : (given more : Given) (words : List (List ℕ)) → AreWithin given → given_from given words ≡ Ok more → AreWithin more
given_within given more [] within is = let same : given ≡ more = cc in subst AreWithin same within
given_within given more (word ∷ []) within is = absurd (no_value given more word is)
given_within given more (word ∷ value ∷ words) within is =
    let step : TakesOption given more word value words = taken given more word value words is in
    given_within step.next more words (value_within given step.next step.option value within step.next_is) step.rest

defaults_within : (given : Given) → AreWithin given → HasRange (with_defaults given)
defaults_within given within = record { every = within.every; segment = segment given.segment within.segment; pool = pool given.pool within.pool }
  where
    segment : (o : Option ℕ) → IfSome o (λ n. (64 ≤ n) × (n ≤ 65536)) → (64 ≤ unwrap_or o 32768) × (unwrap_or o 32768 ≤ 65536)
    segment None within = (omega arith, omega arith)
    segment (Some n) within = within

    pool : (o : Option ℕ) → IfSome o (λ n. (1 ≤ n) × (n ≤ 16384)) → (1 ≤ unwrap_or o 2048) × (unwrap_or o 2048 ≤ 16384)
    pool None within = (omega arith, omega arith)
    pool (Some n) within = within

-- the options that words give are in their ranges
pub options_within : (words : List (List ℕ)) (options : RunOptions) → run_options words ≡ Ok options → HasRange options
options_within words options is = by_given (given_from nothing words) refl is
  where
    by_given : (r : Result Given UsageKind) → given_from nothing words ≡ r → and_then r (λ given. Ok (with_defaults given)) ≡ Ok options → HasRange options
    by_given (Err kind) given_is is = absurd (cc)
    by_given (Ok given) given_is is =
        let same : with_defaults given ≡ options = cc in
        subst HasRange same (defaults_within given (given_within nothing given words nothing_within given_is))
