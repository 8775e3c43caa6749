-- What is wrong with a text that should be a job's: its first fault, line by line, and within a line
-- in the order in which the tests stand here. What is told of a faulty text is this project's own choice.
use Rattle.std.specs.Prelude.{ℕ, suc, Bool, true, false, not, ◌&&◌, ◌==◌, nat_le, nat_lt, List, [], ◌∷◌, length, take, drop, if◌then◌else◌, Option, Some, None, is_none, unwrap_or, codes, bytes_eq, slice_index}
use Rattle.std.specs.Option.{option_map_or}
use Rattle.std.specs.List.{list_all}
use Rattle.std.specs.Str.{all_ascii_digits}
use Rattle.std.specs.Str.Parse.{digits_value}
use Rattle.flow_defs.specs.Lines.{lines}
use Rattle.flow_defs.specs.Stages.{pieces}
use Rattle.flow_defs.specs.Limits.{token_max, field_max, tasks_max, sources_max, stages_max}
use Rattle.flow_defs.specs.declared.job.StageKind.{StageKind}
use Rattle.flow_defs.specs.declared.job.StageKind.TheVariants.{Words, Upper, Keep, Field}
use Rattle.flow_defs.specs.declared.job.AggKind.{AggKind}
use Rattle.flow_defs.specs.declared.job.AggKind.TheVariants.{Count, Sum, Max}
use Rattle.flow_defs.specs.declared.job.Exchange.{Exchange}
use Rattle.flow_defs.specs.declared.job.Exchange.TheVariants.{Hash, Rebalance, Forward}
use Rattle.stage_fns.specs.Functions.{Functions, has_stage, has_agg}
use Rattle.job_text.specs.declared.fault.JobFault.{JobFault}
use Rattle.job_text.specs.declared.fault.JobFault.TheVariants.{Missing, Extra, BadLine, TooMany, UnknownKind, NoFunction, BadNumber, BadExchange, BadWidth}

-- ---- what a word may be

-- A token: at least a byte and at most `token_max`, each visible and of ASCII.
abbrev pub is_token : List ℕ → Bool
is_token word = nat_le 1 (length word) && nat_le (length word) token_max && list_all (λ b. nat_le 33 b && nat_le b 126) word

-- The number that a word spells in decimal, where it is from 1 to the most: digits that do not begin
-- with a zero, whose code is 48, without a sign.
abbrev pub number_of : ℕ → List ℕ → Option ℕ
number_of most word =
    let n = digits_value 10 word in
    if all_ascii_digits word && not (slice_index word 0 == 48) && nat_le 1 n && nat_le n most then Some n else None

-- The tasks that a word gives to a stage, and 0 where it spells no number of tasks.
abbrev pub tasks_of : List ℕ → ℕ
tasks_of word = unwrap_or (number_of tasks_max word) 0

-- The kind of stages that a word spells, and its argument.
abbrev pub stage_kind_of : List ℕ → Option (StageKind × List ℕ)
stage_kind_of word =
    if bytes_eq word (codes "words") then Some (Words, [])
    else if bytes_eq word (codes "upper") then Some (Upper, [])
    else if bytes_eq (take 5 word) (codes "keep:") then (if is_token (drop 5 word) then Some (Keep, drop 5 word) else None)
    else if bytes_eq (take 6 word) (codes "field:") then (if is_none (number_of field_max (drop 6 word)) then None else Some (Field, drop 6 word))
    else None

-- The exchange that a word spells.
abbrev pub exchange_of : List ℕ → Option Exchange
exchange_of word =
    if bytes_eq word (codes "hash") then Some Hash
    else if bytes_eq word (codes "rebalance") then Some Rebalance
    else if bytes_eq word (codes "forward") then Some Forward
    else None

-- The kind of aggregates that a word spells.
abbrev pub agg_of : List ℕ → Option AggKind
agg_of word =
    if bytes_eq word (codes "count") then Some Count
    else if bytes_eq word (codes "sum") then Some Sum
    else if bytes_eq word (codes "max") then Some Max
    else None

-- ---- the fault of one line

-- Where a line stands: behind so many sources and so many stages, the stage before having so many
-- tasks, where the sources count as the tasks of a stage; and whether behind the aggregate's line.
pub record Place : Type 0 where
  pub sources : ℕ
  pub stages : ℕ
  pub tasks : ℕ
  pub ended : Bool

-- Where the first line stands.
abbrev pub start : Place
start = record { sources = 0; stages = 0; tasks = 0; ended = false }

-- The fault of the first test that holds.
abbrev pub first_that_holds : List (Bool × JobFault) → Option JobFault
first_that_holds [] = None
first_that_holds (test ∷ tests) = if test.0 then Some test.1 else first_that_holds tests

-- The fault of a line of two words: only a source's has so many.
abbrev pub source_fault : Place → List ℕ → List ℕ → Option JobFault
source_fault place first file =
    first_that_holds
    ((not (bytes_eq first (codes "source") && place.stages == 0 && is_token file), BadLine)
    ∷ (nat_le sources_max place.sources, TooMany)
    ∷ [])

-- The fault of a line of four words: only a stage's has so many.
abbrev pub stage_fault : Functions → Place → List ℕ → List ℕ → List ℕ → List ℕ → Option JobFault
stage_fault functions place first kind tasks exchange =
    first_that_holds
    ((not (bytes_eq first (codes "stage") && nat_lt 0 place.sources), BadLine)
    ∷ (nat_le stages_max place.stages, TooMany)
    ∷ (is_none (stage_kind_of kind), UnknownKind)
    ∷ (not (option_map_or (λ k. has_stage functions k.0) (stage_kind_of kind) true), NoFunction)
    ∷ (is_none (number_of tasks_max tasks), BadNumber)
    ∷ (is_none (exchange_of exchange), BadExchange)
    ∷ (bytes_eq exchange (codes "forward") && not (tasks_of tasks == place.tasks), BadWidth)
    ∷ [])

-- The fault of a line of three words: only the aggregate's has so many.
abbrev pub aggregate_fault : Functions → Place → List ℕ → List ℕ → List ℕ → Option JobFault
aggregate_fault functions place first kind tasks =
    first_that_holds
    ((not (bytes_eq first (codes "aggregate") && nat_lt 0 place.sources), BadLine)
    ∷ (is_none (agg_of kind), UnknownKind)
    ∷ (not (option_map_or (has_agg functions) (agg_of kind) true), NoFunction)
    ∷ (is_none (number_of tasks_max tasks), BadNumber)
    ∷ [])

-- The fault of a line of these words. An empty word, as between two spaces, is a word like any other.
abbrev pub words_fault : Functions → Place → List (List ℕ) → Option JobFault
words_fault functions place (first ∷ file ∷ []) = source_fault place first file
words_fault functions place (first ∷ kind ∷ tasks ∷ []) = aggregate_fault functions place first kind tasks
words_fault functions place (first ∷ kind ∷ tasks ∷ exchange ∷ []) = stage_fault functions place first kind tasks exchange
words_fault functions place words = Some BadLine

-- The fault of a line that stands here.
abbrev pub line_fault : Functions → Place → List ℕ → Option JobFault
line_fault functions place line = if place.ended then Some Extra else words_fault functions place (pieces 32 line)

-- The place behind a line of these words that has no fault.
abbrev pub behind_words : Place → List (List ℕ) → Place
behind_words place (first ∷ file ∷ []) = record place { sources = suc place.sources; tasks = suc place.sources }
behind_words place (first ∷ kind ∷ tasks ∷ []) = record place { ended = true }
behind_words place (first ∷ kind ∷ tasks ∷ words) = record place { stages = suc place.stages; tasks = tasks_of tasks }
behind_words place words = place

abbrev pub behind : Place → List ℕ → Place
behind place line = behind_words place (pieces 32 line)

-- ---- the first fault of a text

-- The first fault of these lines, with the number of its line: the first line stands here and has
-- this number. A text that ends before the aggregate's line lacks the line behind its last.
abbrev pub fault_from : Functions → Place → ℕ → List (List ℕ) → Option (ℕ × JobFault)
fault_from functions place number [] = if place.ended then None else Some (number, Missing)
fault_from functions place number (line ∷ rest) = option_map_or (λ fault. Some (number, fault)) (line_fault functions place line) (fault_from functions (behind place line) (suc number) rest)

-- The first fault of a text, with the number of its line, counted from 1.
abbrev pub first_fault : Functions → List ℕ → Option (ℕ × JobFault)
first_fault functions text = fault_from functions start 1 (lines text)
