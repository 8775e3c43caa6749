-- What `selfrun` does: it runs a job of words over lines that are made of a seed. The command, its job and what it prints are this project's
-- own choice.
use Rattle.std.specs.Prelude.{◌≡◌, ⊤, ℕ, ◌+◌, ◌*◌, ◌/◌, ◌%◌, ◌^◌, List, [], ◌∷◌, ◌++◌, length, Some, None, codes, decimal}
use Rattle.std.specs.List.{sum_by}
use Rattle.std.specs.FinMap.{entries}
use Rattle.flow_defs.specs.declared.job.Job.{Job}
use Rattle.flow_defs.specs.declared.job.StageKind.TheVariants.{Words}
use Rattle.flow_defs.specs.declared.job.AggKind.TheVariants.{Count}
use Rattle.flow_defs.specs.Lines.{lines}
use Rattle.flow_defs.specs.Tables.{Values}
use Rattle.plain_machine.specs.Worth.{tally}
use Rattle.stage_fns.specs.Functions.{Functions, HasStage, HasAgg}
use Rattle.line_generator.specs.Generated.{generated}
use Rattle.job_text.specs.Words.{IsSelfRun}
use Rattle.job_text.specs.JobText.{IsJobText}
use Rattle.job_text.specs.JobFaults.{first_fault}
use Rattle.outside.specs.Keepers.{KeptImage}
use Rattle.job_outcome.specs.Grounds.{IsOverByOne}
use Rattle.job_outcome.specs.Storing.{EndsIn}
use Rattle.command_parts.specs.declared.fault.Fault.{Fault}
use Rattle.command_parts.specs.declared.fault.Fault.TheVariants.{JobLine, OverCredit, Peer, Memory}

-- The text of the job: two tasks cut the lines of one source into words, and two count these.
unfoldable pub self_text : List ℕ
self_text = codes "source in" ++ 10 ∷ codes "stage words 2 rebalance" ++ 10 ∷ codes "aggregate count 2" ++ 10 ∷ []

-- The table of functions has those of the job.
abbrev pub HasFunctions : Functions → Type 0
HasFunctions functions = HasStage functions Words × HasAgg functions Count

-- What its source has.
abbrev pub made_lines : ℕ → ℕ → ℕ → List (List ℕ)
made_lines many seed = λ a. lines (generated seed many)

-- It takes a checkpoint behind each so many lines.
abbrev pub self_every : ℕ
self_every = 100000

-- ---- what is printed

-- How many records a table has counted, modulo 2^64.
abbrev pub counted_in : Values → ℕ
counted_in table = sum_by (λ (row : List ℕ × ℕ). row.1) (entries table) % 2 ^ 64

-- A line of a name and a number.
abbrev pub number_line : List ℕ → ℕ → List ℕ
number_line name n = name ++ decimal n ++ 10 ∷ []

-- How many lines there were, how many records came of them, how many different ones, and how many images were stored.
abbrev pub summary_of : ℕ → ℕ → ℕ → ℕ → List ℕ
summary_of many records keys images =
    number_line (codes "lines ") many ++ number_line (codes "records ") records
    ++ number_line (codes "keys ") keys ++ number_line (codes "images ") images

-- What that is for so many lines of two words each and the table of these: an image is stored behind each `self_every` lines, one more where all
-- are read, and the last one. The number of records is printed modulo 2^64.
abbrev pub numbers_of : ℕ → Values → List ℕ
numbers_of many table = summary_of many (2 * many % 2 ^ 64) (length (entries table)) (2 + many / self_every)

-- ---- what is run

-- The job is run over so many lines of a seed to its end, with a checkpoint behind each `self_every`: a keeper that held nothing got a chain of
-- images from the start on, with nothing in flight, and the last of them is marked so and has this table.
pub record SelfRan (functions : Functions) (many seed : ℕ) : Type 0 where
  pub job : Job
  pub is_job : IsJobText functions self_text job
  pub kept : List KeptImage
  pub table : Values
  pub ends : EndsIn job (made_lines many seed) (Some self_every) (Some []) (Some kept) table

-- There is such a run, and P holds of the text that tells its numbers.
abbrev pub HasRunOver : Functions → ℕ → ℕ → (List ℕ → Type 0) → Type 0
HasRunOver functions many seed P = (ran : SelfRan functions many seed) × P (numbers_of many (tally ran.job (made_lines many seed)))

-- The words ask for it, and P holds of that text.
abbrev pub SelfRunsTo : List (List ℕ) → Functions → (List ℕ → Type 0) → Type 0
SelfRunsTo words functions P = (many : ℕ) × (seed : ℕ) × IsSelfRun words many seed × HasRunOver functions many seed P

-- The words ask for such a run.
abbrev pub NamesSelfRun : List (List ℕ) → Type 0
NamesSelfRun words = (many : ℕ) × (seed : ℕ) × IsSelfRun words many seed

-- They do, and the text of the job has no fault.
abbrev pub StartsSelfRun : List (List ℕ) → Functions → Type 0
StartsSelfRun words functions = NamesSelfRun words × (first_fault functions self_text ≡ None)

-- They do, and the table of functions lacks one.
abbrev pub LacksFunction : List (List ℕ) → Functions → Type 0
LacksFunction words functions = NamesSelfRun words × (HasFunctions functions → ⊥)

-- ---- its faults

-- What is told of a fault of its run. Neither its file nor its keeper is to fail, so that another fault than one of a connection is told as
-- want of memory. That none of these comes is not proved.
abbrev pub of_self : Fault → Fault
of_self (OverCredit channel received announced) = OverCredit channel received announced
of_self (Peer fault) = Peer fault
of_self fault = Memory

-- The run has this fault.
abbrev pub IsSelfFault : Functions → Fault → Type 0
IsSelfFault functions (JobLine line kind) = first_fault functions self_text ≡ Some (line, kind)
IsSelfFault functions (OverCredit channel received announced) = (first_fault functions self_text ≡ None) × IsOverByOne received announced
IsSelfFault functions (Peer fault) = first_fault functions self_text ≡ None
IsSelfFault functions Memory = ⊤
IsSelfFault functions fault = ⊥
