-- First faults, computed: each of the faults, and texts at the limits.
use Rattle.std.proofs.Common.{◌≡◌, ℕ, List, [], ◌∷◌, ◌++◌, refl, replicate, Option, Some, None, Result, Ok}
use Rattle.std.specs.Prelude.{codes}
use Rattle.flow_defs.specs.declared.job.StageKind.TheVariants.{Words, Keep, Field}
use Rattle.flow_defs.specs.declared.job.AggKind.TheVariants.{Count}
use Rattle.stage_fns.specs.Functions.{Functions}
use Rattle.job_text.specs.declared.words.UsageKind.TheVariants.{NoCommand, UnknownCommand, MissingOperand, BadValue, UnknownOption, ExtraWord, OptionTwice, MissingValue}
use Rattle.job_text.specs.declared.fault.JobFault.{JobFault}
use Rattle.job_text.specs.declared.fault.JobFault.TheVariants.{Missing, Extra, BadLine, TooMany, UnknownKind, NoFunction, BadNumber, BadExchange, BadWidth}
use Rattle.job_text.specs.declared.words.RunOptions.{RunOptions}
use Rattle.job_text.specs.declared.words.UsageKind.{UsageKind}
use Rattle.job_text.specs.Words.{run_options, usage_fault}
use Rattle.job_text.specs.JobFaults.{first_fault}

-- ---- the words of a command line

no_words : usage_fault [] ≡ Some NoCommand
no_words = refl

other_command : usage_fault (codes "go" ∷ []) ≡ Some UnknownCommand
other_command = refl

no_operand : usage_fault (codes "run" ∷ []) ≡ Some MissingOperand
no_operand = refl

empty_operand : usage_fault (codes "run" ∷ [] ∷ codes "k" ∷ []) ≡ Some MissingOperand
empty_operand = refl

option_as_operand : usage_fault (codes "run" ∷ codes "-j" ∷ []) ≡ Some MissingOperand
option_as_operand = refl

option_behind : usage_fault (codes "run" ∷ codes "j" ∷ codes "--fast" ∷ codes "k" ∷ []) ≡ Some UnknownOption
option_behind = refl

word_behind : usage_fault (codes "run" ∷ codes "j" ∷ codes "k" ∷ codes "--fast" ∷ []) ≡ Some ExtraWord
word_behind = refl

empty_word_behind : usage_fault (codes "run" ∷ codes "j" ∷ [] ∷ []) ≡ Some ExtraWord
empty_word_behind = refl

run_of_a_job : usage_fault (codes "run" ∷ codes "j" ∷ []) ≡ None
run_of_a_job = refl

no_option_of_a_script : usage_fault (codes "script" ∷ codes "s" ∷ codes "--pool" ∷ codes "3" ∷ []) ≡ Some UnknownOption
no_option_of_a_script = refl

abbrev options_with : Option ℕ → ℕ → ℕ → Result RunOptions UsageKind
options_with every segment pool = Ok (record { every = every; segment = segment; pool = pool })

abbrev options : ℕ → ℕ → Result RunOptions UsageKind
options segment pool = options_with None segment pool

-- the first fault of these words behind the operand of `run`
abbrev behind : List (List ℕ) → Option UsageKind
behind words = usage_fault (codes "run" ∷ codes "j" ∷ words)

defaults : run_options [] ≡ options 32768 2048
defaults = refl

some_given : run_options (codes "--pool" ∷ codes "41" ∷ []) ≡ options 32768 41
some_given = refl

all_given : run_options (codes "--links" ∷ codes "memory" ∷ codes "--segment" ∷ codes "64" ∷ codes "--pool" ∷ codes "4" ∷ []) ≡ options 64 4
all_given = refl

all_given_at_most : run_options (codes "--pool" ∷ codes "16384" ∷ codes "--segment" ∷ codes "65536" ∷ []) ≡ options 65536 16384
all_given_at_most = refl

checkpoints_given : run_options (codes "--mode" ∷ codes "inline" ∷ codes "--every" ∷ codes "20" ∷ []) ≡ options_with (Some 20) 32768 2048
checkpoints_given = refl

one_line_between : run_options (codes "--every" ∷ codes "1" ∷ []) ≡ options_with (Some 1) 32768 2048
one_line_between = refl

most_lines_between : run_options (codes "--every" ∷ codes "1099511627776" ∷ []) ≡ options_with (Some 1099511627776) 32768 2048
most_lines_between = refl

no_lines_between : behind (codes "--every" ∷ codes "0" ∷ []) ≡ Some BadValue
no_lines_between = refl

too_many_lines_between : behind (codes "--every" ∷ codes "1099511627777" ∷ []) ≡ Some BadValue
too_many_lines_between = refl

every_given_twice : behind (codes "--every" ∷ codes "2" ∷ codes "--every" ∷ codes "3" ∷ []) ≡ Some OptionTwice
every_given_twice = refl

other_mode : behind (codes "--mode" ∷ codes "front" ∷ []) ≡ Some BadValue
other_mode = refl

option_for_a_value : behind (codes "--every" ∷ codes "--every" ∷ codes "3" ∷ []) ≡ Some BadValue
option_for_a_value = refl

short_segment : behind (codes "--segment" ∷ codes "63" ∷ []) ≡ Some BadValue
short_segment = refl

long_segment : behind (codes "--segment" ∷ codes "65537" ∷ []) ≡ Some BadValue
long_segment = refl

no_segments : behind (codes "--pool" ∷ codes "0" ∷ []) ≡ Some BadValue
no_segments = refl

zero_in_front : behind (codes "--pool" ∷ codes "041" ∷ []) ≡ Some BadValue
zero_in_front = refl

empty_value : behind (codes "--pool" ∷ [] ∷ []) ≡ Some BadValue
empty_value = refl

other_links : behind (codes "--links" ∷ codes "loopback" ∷ []) ≡ Some BadValue
other_links = refl

value_with_its_option : behind (codes "--pool=3" ∷ []) ≡ Some UnknownOption
value_with_its_option = refl

no_value : behind (codes "--pool" ∷ []) ≡ Some MissingValue
no_value = refl

-- it is told before its value is looked at
given_twice : behind (codes "--pool" ∷ codes "3" ∷ codes "--pool" ∷ []) ≡ Some OptionTwice
given_twice = refl

word_behind_an_option : behind (codes "--pool" ∷ codes "3" ∷ codes "4" ∷ []) ≡ Some ExtraWord
word_behind_an_option = refl

selfrun_of_most : usage_fault (codes "selfrun" ∷ codes "2000000" ∷ codes "18446744073709551615" ∷ []) ≡ None
selfrun_of_most = refl

selfrun_of_none : usage_fault (codes "selfrun" ∷ codes "0" ∷ codes "0" ∷ []) ≡ None
selfrun_of_none = refl

selfrun_of_too_many : usage_fault (codes "selfrun" ∷ codes "2000001" ∷ codes "18446744073709551616" ∷ []) ≡ Some BadValue
selfrun_of_too_many = refl

selfrun_of_a_large_seed : usage_fault (codes "selfrun" ∷ codes "1" ∷ codes "18446744073709551616" ∷ []) ≡ Some BadValue
selfrun_of_a_large_seed = refl

no_option_of_selfrun : usage_fault (codes "selfrun" ∷ codes "1" ∷ codes "7" ∷ codes "--every" ∷ codes "2" ∷ []) ≡ Some UnknownOption
no_option_of_selfrun = refl

-- ---- the texts of jobs

-- every kind has a function, but `upper`
abbrev most : Functions
most = record { stages = Words ∷ Keep ∷ Field ∷ []; aggs = Count ∷ [] }

-- lines, each with its newline
abbrev text : List (List ℕ) → List ℕ
text [] = []
text (line ∷ rest) = line ++ 10 ∷ text rest

abbrev fault : List (List ℕ) → Option (ℕ × JobFault)
fault lines = first_fault most (text lines)

-- a source, then these lines, then the aggregate
abbrev between : List (List ℕ) → Option (ℕ × JobFault)
between lines = fault (codes "source in" ∷ lines ++ codes "aggregate count 8" ∷ [])

whole : between [] ≡ None
whole = refl

no_last_newline : first_fault most (codes "source in\naggregate count 1") ≡ None
no_last_newline = refl

no_text : fault [] ≡ Some (1, Missing)
no_text = refl

no_aggregate : fault (codes "source in" ∷ codes "stage words 2 hash" ∷ []) ≡ Some (3, Missing)
no_aggregate = refl

line_behind : fault (codes "source in" ∷ codes "aggregate count 1" ∷ codes "aggregate" ∷ []) ≡ Some (3, Extra)
line_behind = refl

empty_line_behind : fault (codes "source in" ∷ codes "aggregate count 1" ∷ [] ∷ []) ≡ Some (3, Extra)
empty_line_behind = refl

no_source : fault (codes "aggregate count 1" ∷ []) ≡ Some (1, BadLine)
no_source = refl

empty_line : fault ([] ∷ []) ≡ Some (1, BadLine)
empty_line = refl

source_behind_stage : between (codes "stage words 1 hash" ∷ codes "source on" ∷ []) ≡ Some (3, BadLine)
source_behind_stage = refl

two_spaces : between (codes "stage words  1 hash" ∷ []) ≡ Some (2, BadLine)
two_spaces = refl

trailing_space : between (codes "stage words 1 hash " ∷ []) ≡ Some (2, BadLine)
trailing_space = refl

space_for_a_name : fault (codes "source " ∷ []) ≡ Some (1, BadLine)
space_for_a_name = refl

empty_kind : between (codes "stage  1 hash" ∷ []) ≡ Some (2, UnknownKind)
empty_kind = refl

name_of_255 : fault ((codes "source " ++ replicate 255 97) ∷ codes "aggregate count 1" ∷ []) ≡ None
name_of_255 = refl

name_of_256 : fault ((codes "source " ++ replicate 256 97) ∷ codes "aggregate count 1" ∷ []) ≡ Some (1, BadLine)
name_of_256 = refl

seven_more_sources : between (replicate 7 (codes "source in")) ≡ None
seven_more_sources = refl

eight_more_sources : between (replicate 8 (codes "source in")) ≡ Some (9, TooMany)
eight_more_sources = refl

six_stages : between (replicate 6 (codes "stage words 1 hash")) ≡ None
six_stages = refl

seven_stages : between (replicate 7 (codes "stage words 1 hash")) ≡ Some (8, TooMany)
seven_stages = refl

-- the tests of one line stand in their order
all_wrong_but_the_words : between (replicate 6 (codes "stage words 1 hash") ++ codes "stage lower 0 none" ∷ []) ≡ Some (8, TooMany)
all_wrong_but_the_words = refl

other_kind : between (codes "stage lower 0 none" ∷ []) ≡ Some (2, UnknownKind)
other_kind = refl

no_function : between (codes "stage upper 0 none" ∷ []) ≡ Some (2, NoFunction)
no_function = refl

no_tasks : between (codes "stage words 0 none" ∷ []) ≡ Some (2, BadNumber)
no_tasks = refl

nine_tasks : between (codes "stage words 9 none" ∷ []) ≡ Some (2, BadNumber)
nine_tasks = refl

leading_zero : between (codes "stage words 01 none" ∷ []) ≡ Some (2, BadNumber)
leading_zero = refl

sign : between (codes "stage words +1 none" ∷ []) ≡ Some (2, BadNumber)
sign = refl

eight_tasks : between (codes "stage words 8 hash" ∷ []) ≡ None
eight_tasks = refl

other_exchange : between (codes "stage words 2 none" ∷ []) ≡ Some (2, BadExchange)
other_exchange = refl

wider : between (codes "stage words 2 forward" ∷ []) ≡ Some (2, BadWidth)
wider = refl

as_wide : between (codes "source on" ∷ codes "stage words 2 forward" ∷ codes "stage words 2 forward" ∷ []) ≡ None
as_wide = refl

narrower : between (codes "stage words 2 hash" ∷ codes "stage words 1 forward" ∷ []) ≡ Some (3, BadWidth)
narrower = refl

field_0 : between (codes "stage field:0 1 hash" ∷ []) ≡ Some (2, UnknownKind)
field_0 = refl

field_01 : between (codes "stage field:01 1 hash" ∷ []) ≡ Some (2, UnknownKind)
field_01 = refl

field_9999 : between (codes "stage field:9999 1 hash" ∷ []) ≡ None
field_9999 = refl

field_10000 : between (codes "stage field:10000 1 hash" ∷ []) ≡ Some (2, UnknownKind)
field_10000 = refl

no_prefix : between (codes "stage keep: 1 hash" ∷ []) ≡ Some (2, UnknownKind)
no_prefix = refl

prefix_of_255 : between ((codes "stage keep:" ++ replicate 255 97 ++ codes " 1 hash") ∷ []) ≡ None
prefix_of_255 = refl

prefix_of_256 : between ((codes "stage keep:" ++ replicate 256 97 ++ codes " 1 hash") ∷ []) ≡ Some (2, UnknownKind)
prefix_of_256 = refl

argument_of_words : between (codes "stage words:1 1 hash" ∷ []) ≡ Some (2, UnknownKind)
argument_of_words = refl

other_aggregate : fault (codes "source in" ∷ codes "aggregate least 9" ∷ []) ≡ Some (2, UnknownKind)
other_aggregate = refl

aggregate_of_9 : fault (codes "source in" ∷ codes "aggregate count 9" ∷ []) ≡ Some (2, BadNumber)
aggregate_of_9 = refl

aggregate_without_function : first_fault (record { stages = []; aggs = [] }) (codes "source in\naggregate count 9") ≡ Some (2, NoFunction)
aggregate_without_function = refl
