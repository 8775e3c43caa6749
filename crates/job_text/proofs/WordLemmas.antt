-- Commands: what their words say, and which words have no fault.
use Rattle.std.proofs.Common.{◌≡◌, ◌↔◌, ℕ, ◌<◌, ◌^◌, Bool, true, false, cond, List, [], ◌∷◌, get_or, lit<, arith, refl, sym, ap, ◌∙◌, subst, ◌⊎◌, inl, inr, Some, None, Result, Ok, Err}
use Rattle.std.specs.Prelude.{codes, bytes_eq, decimal, unwrap_or, IfOk, IfErr}
use Rattle.std.specs.Result.{result_err}
use Rattle.std.proofs.lemmas.Bool.{cond-true}
use Rattle.job_text.specs.declared.words.Command.{Command}
use Rattle.job_text.specs.declared.words.Command.TheVariants.{Run, Script, Gen, SelfRun, Inspect}
use Rattle.job_text.specs.declared.words.RunOptions.{RunOptions}
use Rattle.job_text.specs.declared.words.WordFault.{WordFault}
use Rattle.job_text.specs.declared.words.WordFault.TheVariants.{Usage, Memory}
use Rattle.job_text.specs.declared.words.UsageKind.{UsageKind}
use Rattle.job_text.specs.declared.words.UsageKind.TheVariants.{UnknownCommand, MissingOperand}
use Rattle.job_text.specs.Words.{is_operand, run_options, HasRange, IsRun, IsScript, NameLines, IsGen, IsSelfRun, IsInspect, IsCommand, HasRanges, whole_number, run_fault, no_options_fault, operand_fault, number_fault, lines_fault, usage_fault, IsUsage}
use Rattle.job_text.proofs.NumberWords.{if_none, decimal_whole, number_there, number_named}
use Rattle.job_text.proofs.OptionLemmas.{options_within}
use Rattle.job_text.proofs.SpellingLemmas.{same_bytes}

-- ---- words of commands

same_decimal : (m n : ℕ) → m < 2 ^ 64 → n < 2 ^ 64 → decimal m ≡ decimal n → m ≡ n
same_decimal m n low high same = ap (λ o. unwrap_or o m) (sym (decimal_whole 18446744073709551615 m (lit< tt) (omega (arith, low))) ∙ ap (whole_number 18446744073709551615) same ∙ decimal_whole 18446744073709551615 n (lit< tt) (omega (arith, high)))

-- two numbers in their ranges have no fault
no_lines_fault : (command : List ℕ) (words : List (List ℕ)) (lines seed : ℕ) → NameLines command words lines seed → lines_fault (decimal lines ∷ decimal seed ∷ []) ≡ None
no_lines_fault command words lines seed is =
    number_there 2000000 lines (number_fault 18446744073709551615 no_options_fault) (decimal seed ∷ []) (lit< tt) is.few
    ∙ number_there 18446744073709551615 seed no_options_fault [] (lit< tt) (let fits = is.fits in omega (arith, fits))

pub no_fault : (words : List (List ℕ)) (command : Command) → IsCommand words command → usage_fault words ≡ None
no_fault words (Run job options) is = ap usage_fault is.words_are ∙ cond-true (is_operand job) (run_fault is.behind) (Some MissingOperand) is.operand ∙ ap result_err is.options_are
no_fault words (Script file) is = ap usage_fault is.words_are ∙ cond-true (is_operand file) None (Some MissingOperand) is.operand
no_fault words (Gen lines seed) is = ap usage_fault is.words_are ∙ no_lines_fault (codes "gen") words lines seed is
no_fault words (SelfRun lines seed) is = ap usage_fault is.words_are ∙ no_lines_fault (codes "selfrun") words lines seed is
no_fault words Inspect is = ap usage_fault is

-- What words begin with, told twice.
first_byte : {words these those : List (List ℕ)} → words ≡ these → words ≡ those → get_or (get_or these 0 []) 0 0 ≡ get_or (get_or those 0 []) 0 0
first_byte one other = ap (λ ws. get_or (get_or ws 0 []) 0 0) (sym one ∙ other)

same_lines : (command : List ℕ) (words : List (List ℕ)) (lines seed others other : ℕ) → NameLines command words lines seed → NameLines command words others other → (lines ≡ others) × (seed ≡ other)
same_lines command words lines seed others other first second =
    let same = sym first.words_are ∙ second.words_are in (
      same_decimal lines others (let few = first.few in omega (arith, few)) (let few = second.few in omega (arith, few)) (ap (λ (ws : List (List ℕ)). get_or ws 1 []) same),
      same_decimal seed other first.fits second.fits (ap (λ (ws : List (List ℕ)). get_or ws 2 []) same),
    )

pub one_command : (words : List (List ℕ)) (command other : Command) → IsCommand words command → IsCommand words other → command ≡ other
one_command words (Run job options) (Run name others) first second =
    let these = first.words_are in
    let those = second.words_are in
    let ours = first.options_are in
    let theirs = second.options_are in
    cc
one_command words (Run job options) (Script file) first second = absurd (let these = first.words_are in let those = second.words_are in cc)
one_command words (Script file) (Run job options) first second = absurd (let these = first.words_are in let those = second.words_are in cc)
one_command words (Script file) (Script name) first second = let these = first.words_are in let those = second.words_are in cc
one_command words (Gen lines seed) (Gen others other) first second = let same = same_lines (codes "gen") words lines seed others other first second in ap (λ n. Gen n seed) same.0 ∙ ap (λ n. Gen others n) same.1
one_command words (SelfRun lines seed) (SelfRun others other) first second = let same = same_lines (codes "selfrun") words lines seed others other first second in ap (λ n. SelfRun n seed) same.0 ∙ ap (λ n. SelfRun others n) same.1
one_command words Inspect Inspect first second = refl
one_command words (Run job options) (Gen lines seed) first second = absurd (let same : 114 ≡ 103 = first_byte first.words_are second.words_are in omega (arith, same))
one_command words (Run job options) (SelfRun lines seed) first second = absurd (let same : 114 ≡ 115 = first_byte first.words_are second.words_are in omega (arith, same))
one_command words (Run job options) Inspect first second = absurd (let same : 114 ≡ 105 = first_byte first.words_are second in omega (arith, same))
one_command words (Script file) (Gen lines seed) first second = absurd (let same : 115 ≡ 103 = first_byte first.words_are second.words_are in omega (arith, same))
one_command words (Script file) Inspect first second = absurd (let same : 115 ≡ 105 = first_byte first.words_are second in omega (arith, same))
one_command words (Gen lines seed) (Run job options) first second = absurd (let same : 103 ≡ 114 = first_byte first.words_are second.words_are in omega (arith, same))
one_command words (Gen lines seed) (Script file) first second = absurd (let same : 103 ≡ 115 = first_byte first.words_are second.words_are in omega (arith, same))
one_command words (Gen lines seed) (SelfRun others other) first second = absurd (let same : 103 ≡ 115 = first_byte first.words_are second.words_are in omega (arith, same))
one_command words (Gen lines seed) Inspect first second = absurd (let same : 103 ≡ 105 = first_byte first.words_are second in omega (arith, same))
one_command words (SelfRun lines seed) (Run job options) first second = absurd (let same : 115 ≡ 114 = first_byte first.words_are second.words_are in omega (arith, same))
one_command words (SelfRun lines seed) (Gen others other) first second = absurd (let same : 115 ≡ 103 = first_byte first.words_are second.words_are in omega (arith, same))
one_command words (SelfRun lines seed) Inspect first second = absurd (let same : 115 ≡ 105 = first_byte first.words_are second in omega (arith, same))
one_command words Inspect (Run job options) first second = absurd (let same : 105 ≡ 114 = first_byte first second.words_are in omega (arith, same))
one_command words Inspect (Script file) first second = absurd (let same : 105 ≡ 115 = first_byte first second.words_are in omega (arith, same))
one_command words Inspect (Gen lines seed) first second = absurd (let same : 105 ≡ 103 = first_byte first second.words_are in omega (arith, same))
one_command words Inspect (SelfRun lines seed) first second = absurd (let same : 105 ≡ 115 = first_byte first second.words_are in omega (arith, same))
one_command words (Script file) (SelfRun lines seed) first second = absurd (let these = first.words_are in let those = second.words_are in cc)
one_command words (SelfRun lines seed) (Script file) first second = absurd (let these = first.words_are in let those = second.words_are in cc)

pub run_range : (words : List (List ℕ)) (job : List ℕ) (options : RunOptions) → IsRun words job options → HasRange options
run_range words job options is = options_within is.behind options is.options_are

pub in_ranges : (words : List (List ℕ)) (command : Command) → IsCommand words command → HasRanges command
in_ranges words (Run job options) is = run_range words job options is
in_ranges words (Script file) is = tt
in_ranges words (Gen lines seed) is = tt
in_ranges words (SelfRun lines seed) is = tt
in_ranges words Inspect is = tt

pub ranges_of : (words : List (List ℕ)) (r : Result Command WordFault) → IfOk r (IsCommand words) → IfOk r HasRanges
ranges_of words (Ok command) is = in_ranges words command is
ranges_of words (Err told) is = tt

-- words that begin with a command's name are of what is read of the words behind that name
pub named_command : (words behind : List (List ℕ)) (word name : List ℕ) (r : Result Command WordFault) → words ≡ word ∷ behind → bytes_eq word name ≡ true → IfOk r (IsCommand (name ∷ behind)) → IfOk r (IsCommand words)
named_command words behind word name r words_are is command = subst (λ ws. IfOk r (IsCommand ws)) (sym (words_are ∙ ap (λ w. w ∷ behind) (same_bytes word name is))) command

-- ---- words without a fault

-- the words are a command's
abbrev pub NamesCommand : List (List ℕ) → Type 0
NamesCommand words =
    ((job : List ℕ) × (options : RunOptions) × IsRun words job options)
    ⊎ ((file : List ℕ) × IsScript words file)
    ⊎ ((lines : ℕ) × (seed : ℕ) × IsGen words lines seed)
    ⊎ ((lines : ℕ) × (seed : ℕ) × IsSelfRun words lines seed)
    ⊎ IsInspect words

no_err : (r : Result RunOptions UsageKind) → result_err r ≡ None → (options : RunOptions) × (r ≡ Ok options)
no_err (Ok options) is = (options, refl)
no_err (Err kind) is = absurd (cc)

run_named : (command : List ℕ) (words : List (List ℕ)) → bytes_eq command (codes "run") ≡ true → operand_fault run_fault words ≡ None → NamesCommand (command ∷ words)
run_named command [] name is = absurd (cc)
run_named command (job ∷ behind) name is =
    let operand : (is_operand job ≡ true) × (run_fault behind ≡ None) = if_none (is_operand job) (run_fault behind) MissingOperand is in
    let options = no_err (run_options behind) operand.1 in
    inl (job, options.0, record { behind = behind; words_are = ap (λ w. w ∷ job ∷ behind) (same_bytes command (codes "run") name); operand = operand.0; options_are = options.1 })

script_named : (command : List ℕ) (words : List (List ℕ)) → bytes_eq command (codes "script") ≡ true → operand_fault no_options_fault words ≡ None → NamesCommand (command ∷ words)
script_named command [] name is = absurd (cc)
script_named command (file ∷ []) name is =
    let operand : (is_operand file ≡ true) × (no_options_fault [] ≡ None) = if_none (is_operand file) None MissingOperand is in
    inr (inl (file, record { words_are = ap (λ w. w ∷ file ∷ []) (same_bytes command (codes "script") name); operand = operand.0 }))
script_named command (file ∷ word ∷ words) name is =
    let operand : (is_operand file ≡ true) × (no_options_fault (word ∷ words) ≡ None) = if_none (is_operand file) (no_options_fault (word ∷ words)) MissingOperand is in
    absurd (cc (operand.1))

none_behind : (words : List (List ℕ)) → no_options_fault words ≡ None → words ≡ []
none_behind [] is = refl
none_behind (word ∷ words) is = absurd (cc (is))

-- two numbers behind a command's name
pub record SomeLines (command : List ℕ) (words : List (List ℕ)) : Type 0 where
  pub lines : ℕ
  pub seed : ℕ
  pub names : NameLines command words lines seed

lines_named : (command name : List ℕ) (words : List (List ℕ)) → bytes_eq command name ≡ true → lines_fault words ≡ None → SomeLines name (command ∷ words)
lines_named command name words same is =
    let lines = number_named 2000000 (number_fault 18446744073709551615 no_options_fault) words (lit< tt) is in
    let seed = number_named 18446744073709551615 no_options_fault lines.behind (lit< tt) lines.then in
    let end : seed.behind ≡ [] = none_behind seed.behind seed.then in
    record {
      lines = lines.number;
      seed = seed.number;
      names = record {
        words_are =
            ap (λ w. w ∷ words) (same_bytes command name same)
            ∙ ap (λ ws. name ∷ ws) (lines.words_are ∙ ap (λ ws. decimal lines.number ∷ ws) (seed.words_are ∙ ap (λ ws. decimal seed.number ∷ ws) end));
        few = lines.within;
        fits = let within = seed.within in omega (arith, within);
      };
    }

gen_named : (command : List ℕ) (words : List (List ℕ)) → bytes_eq command (codes "gen") ≡ true → lines_fault words ≡ None → NamesCommand (command ∷ words)
gen_named command words name is = let found = lines_named command (codes "gen") words name is in inr (inr (inl (found.lines, found.seed, found.names)))

selfrun_named : (command : List ℕ) (words : List (List ℕ)) → bytes_eq command (codes "selfrun") ≡ true → lines_fault words ≡ None → NamesCommand (command ∷ words)
selfrun_named command words name is = let found = lines_named command (codes "selfrun") words name is in inr (inr (inr (inl (found.lines, found.seed, found.names))))

inspect_named : (command : List ℕ) (words : List (List ℕ)) → bytes_eq command (codes "inspect") ≡ true → no_options_fault words ≡ None → NamesCommand (command ∷ words)
inspect_named command words name is = inr (inr (inr (inr (ap (λ w. w ∷ words) (same_bytes command (codes "inspect") name) ∙ ap (λ ws. codes "inspect" ∷ ws) (none_behind words is)))))

pub named : (words : List (List ℕ)) → usage_fault words ≡ None → NamesCommand words
named [] is = absurd (cc)
named (command ∷ words) is =
    by_name (bytes_eq command (codes "run")) (bytes_eq command (codes "script")) (bytes_eq command (codes "gen")) (bytes_eq command (codes "selfrun")) (bytes_eq command (codes "inspect")) refl refl refl refl refl is
  where
    by_name : (run script gen selfrun inspect : Bool) →
        bytes_eq command (codes "run") ≡ run → bytes_eq command (codes "script") ≡ script → bytes_eq command (codes "gen") ≡ gen → bytes_eq command (codes "selfrun") ≡ selfrun → bytes_eq command (codes "inspect") ≡ inspect →
        cond run (operand_fault run_fault words) (cond script (operand_fault no_options_fault words) (cond gen (lines_fault words) (cond selfrun (lines_fault words) (cond inspect (no_options_fault words) (Some UnknownCommand))))) ≡ None → NamesCommand (command ∷ words)
    by_name true script gen selfrun inspect run_is script_is gen_is selfrun_is inspect_is is = run_named command words run_is is
    by_name false true gen selfrun inspect run_is script_is gen_is selfrun_is inspect_is is = script_named command words script_is is
    by_name false false true selfrun inspect run_is script_is gen_is selfrun_is inspect_is is = gen_named command words gen_is is
    by_name false false false true inspect run_is script_is gen_is selfrun_is inspect_is is = selfrun_named command words selfrun_is is
    by_name false false false false true run_is script_is gen_is selfrun_is inspect_is is = inspect_named command words inspect_is is
    by_name false false false false false run_is script_is gen_is selfrun_is inspect_is is = absurd (cc)

pub of_named : (words : List (List ℕ)) → NamesCommand words → usage_fault words ≡ None
of_named words (inl run) = no_fault words (Run run.0 run.1) run.2
of_named words (inr (inl script)) = no_fault words (Script script.0) script.1
of_named words (inr (inr (inl gen))) = no_fault words (Gen gen.0 gen.1) gen.2
of_named words (inr (inr (inr (inl selfrun)))) = no_fault words (SelfRun selfrun.0 selfrun.1) selfrun.2
of_named words (inr (inr (inr (inr inspect)))) = no_fault words Inspect inspect

pub accepted : (words : List (List ℕ)) → (usage_fault words ≡ None) ↔ NamesCommand words
accepted words = (named words, of_named words)

-- ---- what is told of faulty words

pub usage_told : (words : List (List ℕ)) (r : Result Command WordFault) → IfOk r (IsCommand words) → IfErr r (λ told. IsUsage told (usage_fault words)) →
    (kind : UsageKind) → (r ≡ Err (Usage kind)) ↔ (usage_fault words ≡ Some kind)
usage_told words (Ok command) is fault kind = (λ told. absurd (cc), λ some. absurd (let none = no_fault words command is in cc))
usage_told words (Err (Usage told)) is fault kind = (λ same. fault ∙ (let e : Err (Usage told) ≡ Err (Usage kind) = same in cc), λ some. (let e : Some told ≡ Some kind = sym fault ∙ some in cc))
usage_told words (Err Memory) is fault kind = (λ told. absurd (cc), λ some. absurd (cc))

pub gen_usage : (words behind : List (List ℕ)) (word : List ℕ) → words ≡ word ∷ behind → bytes_eq word (codes "gen") ≡ true → usage_fault words ≡ lines_fault behind
gen_usage words behind word words_are gen = ap usage_fault words_are ∙ ap (λ w. usage_fault (w ∷ behind)) (same_bytes word (codes "gen") gen)

pub selfrun_usage : (words behind : List (List ℕ)) (word : List ℕ) → words ≡ word ∷ behind → bytes_eq word (codes "selfrun") ≡ true → usage_fault words ≡ lines_fault behind
selfrun_usage words behind word words_are selfrun = ap usage_fault words_are ∙ ap (λ w. usage_fault (w ∷ behind)) (same_bytes word (codes "selfrun") selfrun)

pub inspect_usage : (words behind : List (List ℕ)) (word : List ℕ) → words ≡ word ∷ behind → bytes_eq word (codes "inspect") ≡ true → usage_fault words ≡ no_options_fault behind
inspect_usage words behind word words_are inspect = ap usage_fault words_are ∙ ap (λ w. usage_fault (w ∷ behind)) (same_bytes word (codes "inspect") inspect)
