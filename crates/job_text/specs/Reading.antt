-- What the reader of a job's text has read, and what is left of the text.
use Rattle.std.specs.Prelude.{◌≡◌, ℕ, suc, ◌<◌, ◌≤◌, true, false, List, [], ◌∷◌, length, codes, decimal, Option, Some, None}
use Rattle.flow_defs.specs.Lines.{lines}
use Rattle.flow_defs.specs.Stages.{IsToken, IsArgument}
use Rattle.flow_defs.specs.Limits.{tasks_max, sources_max, stages_max}
use Rattle.flow_defs.specs.declared.job.StageKind.{StageKind}
use Rattle.flow_defs.specs.declared.job.AggKind.{AggKind}
use Rattle.flow_defs.specs.declared.job.Exchange.{Exchange}
use Rattle.flow_defs.specs.declared.job.Exchange.TheVariants.{Forward}
use Rattle.stage_fns.specs.Functions.{Functions, HasStage, HasAgg}
use Rattle.job_text.specs.declared.lines.JobLines.{JobLines}
use Rattle.job_text.specs.declared.lines.Line.{Line}
use Rattle.job_text.specs.declared.lines.Line.TheVariants as line
use Rattle.job_text.specs.declared.fault.JobFault.{JobFault}
use Rattle.job_text.specs.declared.fault.JobReadFault.{JobReadFault}
use Rattle.job_text.specs.declared.fault.JobReadFault.TheVariants as read
use Rattle.job_text.specs.JobText.{source_line, kind_word, exchange_word, aggregate_line, line_of}
use Rattle.job_text.specs.JobFaults.{Place, fault_from}

-- Where the next line stands.
abbrev pub place_of : JobLines → Place
place_of reader = record { sources = reader.sources; stages = reader.stages; tasks = reader.tasks; ended = false }

-- The lines that are left.
abbrev pub lines_left : JobLines → List (List ℕ)
lines_left reader = lines reader.rest.now

-- Their first fault.
abbrev pub fault_left : Functions → JobLines → Option (ℕ × JobFault)
fault_left functions reader = fault_from functions (place_of reader) reader.number (lines_left reader)

-- What is told is this fault.
abbrev pub IsTold : JobReadFault → Option (ℕ × JobFault) → Type 0
IsTold (read.Line number kind) fault = fault ≡ Some (number, kind)
IsTold read.Memory fault = ⊥

-- A stage of this kind may follow a stage of so many tasks.
pub record IsStageBehind (functions : Functions) (before : ℕ) (kind : StageKind) (arg : List ℕ) (tasks : ℕ) (exchange : Exchange) : Type 0 where
  pub argument : IsArgument kind arg
  pub has_function : HasStage functions kind
  pub low : 1 ≤ tasks
  pub high : tasks ≤ tasks_max
  pub width : exchange ≡ Forward → before ≡ tasks

-- The line, which stands here, is this one of a source, a stage or the aggregate.
pub record IsSource (place : Place) (file text : List ℕ) : Type 0 where
  pub text_is : text ≡ source_line file
  pub name : IsToken file
  pub few : place.sources < sources_max
  pub no_stage : place.stages ≡ 0

pub record IsStage (functions : Functions) (place : Place) (kind : StageKind) (arg : List ℕ) (tasks : ℕ) (exchange : Exchange) (text : List ℕ) : Type 0 where
  pub text_is : text ≡ line_of (codes "stage" ∷ kind_word kind arg ∷ decimal tasks ∷ exchange_word exchange ∷ [])
  pub sources : 0 < place.sources
  pub few : place.stages < stages_max
  pub fits : IsStageBehind functions place.tasks kind arg tasks exchange

pub record IsAggregate (functions : Functions) (place : Place) (kind : AggKind) (tasks : ℕ) (text : List ℕ) : Type 0 where
  pub text_is : text ≡ aggregate_line kind tasks
  pub sources : 0 < place.sources
  pub has_function : HasAgg functions kind
  pub low : 1 ≤ tasks
  pub high : tasks ≤ tasks_max

abbrev pub IsLine : Functions → Place → Line → List ℕ → Type 0
IsLine functions place (line.Source file) text = IsSource place file.now text
IsLine functions place (line.Stage kind arg tasks exchange) text = IsStage functions place kind arg.now tasks exchange text
IsLine functions place (line.Aggregate kind tasks) text = IsAggregate functions place kind tasks text

-- Where the line behind this one stands.
abbrev pub behind_line : Place → Line → Place
behind_line place (line.Source file) = record place { sources = suc place.sources; tasks = suc place.sources }
behind_line place (line.Stage kind arg tasks exchange) = record place { stages = suc place.stages; tasks = tasks }
behind_line place (line.Aggregate kind tasks) = record place { ended = true }

-- What is left behind a line. Behind the aggregate's nothing is, and there is no fault.
abbrev pub LinesGoOn : Functions → JobLines → JobLines → Line → Type 0
LinesGoOn functions old new (line.Source file) = (place_of new ≡ behind_line (place_of old) (line.Source file)) × (fault_left functions old ≡ fault_left functions new)
LinesGoOn functions old new (line.Stage kind arg tasks exchange) = (place_of new ≡ behind_line (place_of old) (line.Stage kind arg tasks exchange)) × (fault_left functions old ≡ fault_left functions new)
LinesGoOn functions old new (line.Aggregate kind tasks) = (lines_left new ≡ []) × (fault_left functions old ≡ None)

-- The first of the lines that were left is this one.
pub record TakesLine (functions : Functions) (old new : JobLines) (line : Line) : Type 0 where
  pub text : List ℕ
  pub lines_are : lines_left old ≡ text ∷ lines_left new
  pub is_line : IsLine functions (place_of old) line text
  pub goes_on : LinesGoOn functions old new line
  pub shorter : length new.rest.now < length old.rest.now
