-- The words of a command line. The commands, their options and what is told of faulty words are this project's own choice.
use Rattle.std.specs.Prelude.{◌≡◌, ℕ, ◌≤◌, ◌<◌, ◌^◌, IfSome, decimal, ◌==◌, Bool, true, false, not, nat_le, List, [], ◌∷◌, IsTrue, ⊤, if◌then◌else◌, Option, Some, None, is_some, unwrap_or, ok_or, option_map, option_and_then, Result, Ok, Err, codes, bytes_eq}
use Rattle.std.specs.Option.{option_map_or}
use Rattle.std.specs.Result.{result_err}
use Rattle.job_text.specs.declared.words.Command.{Command}
use Rattle.job_text.specs.declared.words.Command.TheVariants.{Run, Script, Gen, SelfRun, Inspect}
use Rattle.job_text.specs.declared.words.RunOptions.{RunOptions}
use Rattle.job_text.specs.declared.words.WordFault.{WordFault}
use Rattle.job_text.specs.declared.words.WordFault.TheVariants.{Usage, Memory}
use Rattle.job_text.specs.declared.words.UsageKind.{UsageKind}
use Rattle.job_text.specs.declared.words.UsageKind.TheVariants.{NoCommand, UnknownCommand, MissingOperand, BadValue, UnknownOption, ExtraWord, OptionTwice, MissingValue}
use Rattle.job_text.specs.declared.options.RunOption.{RunOption}
use Rattle.job_text.specs.declared.options.RunOption.TheVariants.{Every, Mode, Segment, Pool, Links}
use Rattle.job_text.specs.declared.options.Given.{Given}
use Rattle.flow_defs.specs.Limits.{segment_min, segment_max, segments_max}
use Rattle.job_text.specs.Limits.{every_max, lines_max, usual_segment, usual_pool}
use Rattle.job_text.specs.JobFaults.{number_of}

-- Whether a word begins with `-`, as an option does.
abbrev pub has_dash : List ℕ → Bool
has_dash [] = false
has_dash (b ∷ bytes) = b == 45

-- An operand is not empty and does not begin with `-`.
abbrev pub is_operand : List ℕ → Bool
is_operand [] = false
is_operand (b ∷ bytes) = not (b == 45)

-- The fault of a word behind the operand that is no option of the command.
abbrev pub stray_fault : List ℕ → UsageKind
stray_fault word = if has_dash word then UnknownOption else ExtraWord

-- ---- the options of `run`

-- The option that a word names.
abbrev pub option_of : List ℕ → Option RunOption
option_of word =
    if bytes_eq word (codes "--every") then Some Every
    else if bytes_eq word (codes "--mode") then Some Mode
    else if bytes_eq word (codes "--segment") then Some Segment
    else if bytes_eq word (codes "--pool") then Some Pool
    else if bytes_eq word (codes "--links") then Some Links
    else None

-- The number that a word spells in decimal, where it is from the least to the most; the least is not 0.
abbrev pub number_within : ℕ → ℕ → List ℕ → Option ℕ
number_within least most word = option_and_then (λ n. if nat_le least n then Some n else None) (number_of most word)

-- Before the first option nothing was given.
abbrev pub nothing : Given
nothing = record { every = None; mode = false; segment = None; pool = None; links = false }

-- Whether an option was given.
abbrev pub was_given : Given → RunOption → Bool
was_given given Every = is_some given.every
was_given given Mode = given.mode
was_given given Segment = is_some given.segment
was_given given Pool = is_some given.pool
was_given given Links = given.links

-- What was given with this value of an option besides, where the option has such a value.
abbrev pub with_value : Given → RunOption → List ℕ → Option Given
with_value given Every value = option_map (λ n. record given { every = Some n }) (number_of every_max value)
with_value given Mode value = if bytes_eq value (codes "inline") then Some (record given { mode = true }) else None
with_value given Segment value = option_map (λ n. record given { segment = Some n }) (number_within segment_min segment_max value)
with_value given Pool value = option_map (λ n. record given { pool = Some n }) (number_within 1 segments_max value)
with_value given Links value = if bytes_eq value (codes "memory") then Some (record given { links = true }) else None

-- The option that a word names behind those that were given, or the fault of the word.
abbrev pub option_behind : Given → List ℕ → Result RunOption UsageKind
option_behind given word = option_map_or (λ option. if was_given given option then Err OptionTwice else Ok option) (option_of word) (Err (stray_fault word))

-- What comes of a value; a fault stays.
abbrev pub and_then : {A B : Type 0} → Result A UsageKind → (A → Result B UsageKind) → Result B UsageKind
and_then (Ok a) next = next a
and_then (Err kind) next = Err kind

-- What is given with the options that the words are, behind those that were given; or the first fault, from the left.
abbrev pub given_from : Given → List (List ℕ) → Result Given UsageKind
given_from given [] = Ok given
given_from given (word ∷ []) = and_then (option_behind given word) (λ option. Err MissingValue)
given_from given (word ∷ value ∷ words) = and_then (option_behind given word) (λ option. and_then (ok_or (with_value given option value) BadValue) (λ more. given_from more words))

-- The options of a run: what was given, and else one checkpoint alone, the last, and the usual segments and pool.
abbrev pub with_defaults : Given → RunOptions
with_defaults given = record { every = given.every; segment = unwrap_or given.segment usual_segment; pool = unwrap_or given.pool usual_pool }

-- The options of a run that these words behind its operand give, or their first fault.
abbrev pub run_options : List (List ℕ) → Result RunOptions UsageKind
run_options words = and_then (given_from nothing words) (λ given. Ok (with_defaults given))

-- Between two checkpoints lie from 1 to 1,099,511,627,776 lines of a source; a segment has from 64 to
-- 65,536 bytes, and a pool from 1 to 16,384 segments.
pub record HasRange (options : RunOptions) : Type 0 where
  pub every : IfSome options.every (λ n. (1 ≤ n) × (n ≤ every_max))
  pub segment : (segment_min ≤ options.segment) × (options.segment ≤ segment_max)
  pub pool : (1 ≤ options.pool) × (options.pool ≤ segments_max)

-- ---- commands

-- The words are `run`, the name of a job's file, and these options.
pub record IsRun (words : List (List ℕ)) (job : List ℕ) (options : RunOptions) : Type 0 where
  pub behind : List (List ℕ)
  pub words_are : words ≡ codes "run" ∷ job ∷ behind
  pub operand : IsTrue (is_operand job)
  pub options_are : run_options behind ≡ Ok options

-- The words are `script` and the name of a script's file.
pub record IsScript (words : List (List ℕ)) (file : List ℕ) : Type 0 where
  pub words_are : words ≡ codes "script" ∷ file ∷ []
  pub operand : IsTrue (is_operand file)

-- The words are a command's name, how many lines are to be made, and the seed that they are made of.
pub record NameLines (command : List ℕ) (words : List (List ℕ)) (lines seed : ℕ) : Type 0 where
  pub words_are : words ≡ command ∷ decimal lines ∷ decimal seed ∷ []
  pub few : lines ≤ lines_max
  pub fits : seed < 2 ^ 64

-- The words are `gen`, a number of lines and a seed.
abbrev pub IsGen : List (List ℕ) → ℕ → ℕ → Type 0
IsGen words lines seed = NameLines (codes "gen") words lines seed

-- The words are `selfrun`, a number of lines and a seed.
abbrev pub IsSelfRun : List (List ℕ) → ℕ → ℕ → Type 0
IsSelfRun words lines seed = NameLines (codes "selfrun") words lines seed

-- The one word is `inspect`.
abbrev pub IsInspect : List (List ℕ) → Type 0
IsInspect words = words ≡ codes "inspect" ∷ []

-- The words are this command.
abbrev pub IsCommand : List (List ℕ) → Command → Type 0
IsCommand words (Run job options) = IsRun words job options
IsCommand words (Script file) = IsScript words file
IsCommand words (Gen lines seed) = IsGen words lines seed
IsCommand words (SelfRun lines seed) = IsSelfRun words lines seed
IsCommand words Inspect = IsInspect words

-- The options of a command are in their ranges.
abbrev pub HasRanges : Command → Type 0
HasRanges (Run job options) = HasRange options
HasRanges (Script file) = ⊤
HasRanges (Gen lines seed) = ⊤
HasRanges (SelfRun lines seed) = ⊤
HasRanges Inspect = ⊤

-- ---- what is told of faulty words

-- The first fault of the words behind the operand of `run`.
abbrev pub run_fault : List (List ℕ) → Option UsageKind
run_fault words = result_err (run_options words)

-- The first fault of the words behind the operands of a command that has no options.
abbrev pub no_options_fault : List (List ℕ) → Option UsageKind
no_options_fault [] = None
no_options_fault (word ∷ words) = Some (stray_fault word)

-- The first fault of the words behind a command's name: an operand, and words whose first fault is this.
abbrev pub operand_fault : (List (List ℕ) → Option UsageKind) → List (List ℕ) → Option UsageKind
operand_fault fault [] = Some MissingOperand
operand_fault fault (operand ∷ words) = if is_operand operand then fault words else Some MissingOperand

-- The number that a word spells in decimal, where it is at most this.
abbrev pub whole_number : ℕ → List ℕ → Option ℕ
whole_number most word = if bytes_eq word (codes "0") then Some 0 else number_of most word

-- The first fault of the words in an operand's place and behind it: a number of at most this, and words whose first fault is this.
abbrev pub number_fault : ℕ → (List (List ℕ) → Option UsageKind) → List (List ℕ) → Option UsageKind
number_fault most fault [] = Some MissingOperand
number_fault most fault (operand ∷ words) =
    if is_operand operand then (if is_some (whole_number most operand) then fault words else Some BadValue) else Some MissingOperand

-- The first fault of the words behind `gen` or `selfrun`, which have no options.
abbrev pub lines_fault : List (List ℕ) → Option UsageKind
lines_fault words = number_fault lines_max (number_fault 18446744073709551615 no_options_fault) words

-- The first fault of the words, from the left.
abbrev pub usage_fault : List (List ℕ) → Option UsageKind
usage_fault [] = Some NoCommand
usage_fault (command ∷ words) =
    if bytes_eq command (codes "run") then operand_fault run_fault words
    else if bytes_eq command (codes "script") then operand_fault no_options_fault words
    else if bytes_eq command (codes "gen") then lines_fault words
    else if bytes_eq command (codes "selfrun") then lines_fault words
    else if bytes_eq command (codes "inspect") then no_options_fault words
    else Some UnknownCommand

-- What is told is this fault of words; that there is no memory is told only where they have none.
abbrev pub IsUsage : WordFault → Option UsageKind → Type 0
IsUsage (Usage kind) fault = fault ≡ Some kind
IsUsage Memory fault = fault ≡ None
