-- What the crate `clap` is told of the commands, and which values it finds in the words behind the name of an accepted one.
use Rattle.std.specs.Prelude.{◌≡◌, ℕ, List, [], ◌∷◌, true, Option, Some, None, Result, MatchResult, codes, drop, find, option_map, option_and_then, unwrap_or, bytes_eq}
use Rattle.clap.specs.Words.{App, Rule, Text, first_value, found_of, kind_of, new_app, new_rule, with_rule}
use Rattle.clap.specs.Simple.{on_top}
use Rattle.clap.specs.declared.builder.ArgAction.TheVariants.{Set}
use Rattle.clap.specs.declared.error.Error.{Error}
use Rattle.clap.specs.declared.error.ErrorKind.TheVariants.{OutOfMemory}
use Rattle.clap.specs.declared.parser.ArgMatches.{ArgMatches}
use Rattle.job_text.specs.declared.words.RunOptions.{RunOptions}
use Rattle.job_text.specs.declared.words.UsageKind.{UsageKind}
use Rattle.flow_defs.specs.Limits.{segment_min, segment_max, segments_max}
use Rattle.job_text.specs.Limits.{every_max, usual_segment, usual_pool}
use Rattle.job_text.specs.JobFaults.{number_of}
use Rattle.job_text.specs.Words.{number_within}

-- ---- the commands

-- A command that has no help or version words. Its own name is not among the words.
abbrev pub bare : Text → App
bare name = on_top (λ s. record s { no_binary_name = true; disable_help_flag = true; disable_version_flag = true }) (new_app name)

-- An operand is a positional.
abbrev pub operand_rule : Text → Rule
operand_rule name = record (new_rule name) { action = Some Set; required = true }

-- An option has one value.
abbrev pub option_rule : Text → Rule
option_rule name = record (new_rule name) { action = Some Set; long = Some name }

-- `run` has one operand and five options.
abbrev pub run_app : App
run_app =
    let with_job = with_rule (bare (codes "run")) (operand_rule (codes "job")) in
    let with_every = with_rule with_job (option_rule (codes "every")) in
    let with_mode = with_rule with_every (option_rule (codes "mode")) in
    let with_segment = with_rule with_mode (option_rule (codes "segment")) in
    let with_pool = with_rule with_segment (option_rule (codes "pool")) in
    with_rule with_pool (option_rule (codes "links"))

-- `script` has one operand.
abbrev pub script_app : App
script_app = with_rule (bare (codes "script")) (operand_rule (codes "file"))

-- `gen` and `selfrun` have two operands.
abbrev pub lines_app : Text → App
lines_app name = with_rule (with_rule (bare name) (operand_rule (codes "lines"))) (operand_rule (codes "seed"))

-- ---- the values

-- Values by name.
abbrev pub Values : Type 0
Values = List (Text × Text)

-- The value that was given by a name.
abbrev pub value_of : Values → Text → Option Text
value_of values name = option_map (λ v. v.1) (find (λ v. bytes_eq v.0 name) values)

-- These values are found, and no others.
abbrev pub HasValues : Values → ArgMatches → Type 0
HasValues values found = (name : Text) → first_value (found_of found) name ≡ value_of values name

-- What is made of words with this fault: without one these values are found, and nothing is refused but for want of memory.
abbrev pub Finds : Option UsageKind → Values → Result ArgMatches Error → Type 0
Finds fault values r = fault ≡ None → MatchResult r (HasValues values) (λ e. kind_of e ≡ OutOfMemory)

-- The values of the options of `run`, each by the option's name without `--`.
abbrev pub option_values : List Text → Values
option_values [] = []
option_values (word ∷ []) = []
option_values (word ∷ value ∷ words) = (drop 2 word, value) ∷ option_values words

-- The values of the words of `run`.
abbrev pub run_values : List Text → Values
run_values [] = []
run_values (job ∷ words) = (codes "job", job) ∷ option_values words

-- The values of the words of `script`.
abbrev pub script_values : List Text → Values
script_values [] = []
script_values (file ∷ words) = (codes "file", file) ∷ []

-- The values of the words of `gen` and `selfrun`.
abbrev pub lines_values : List Text → Values
lines_values [] = []
lines_values (lines ∷ []) = []
lines_values (lines ∷ seed ∷ words) = (codes "lines", lines) ∷ (codes "seed", seed) ∷ []

-- The options of a run to which the options have these values.
abbrev pub options_by : (Text → Option Text) → RunOptions
options_by value = record {
  every = option_and_then (number_of every_max) (value (codes "every"));
  segment = unwrap_or (option_and_then (number_within segment_min segment_max) (value (codes "segment"))) usual_segment;
  pool = unwrap_or (option_and_then (number_within 1 segments_max) (value (codes "pool"))) usual_pool;
}
