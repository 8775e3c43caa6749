-- The text of a job: a line for each source, then one for each stateless stage, and last one for the
-- aggregate. Its grammar is this project's own choice.
use Rattle.std.specs.Prelude.{◌≡◌, ℕ, List, [], ◌∷◌, ◌++◌, map, codes, decimal}
use Rattle.std.specs.List.{AllByRecursion, join_with_byte}
use Rattle.flow_defs.specs.Items.{Items}
use Rattle.flow_defs.specs.Lines.{lines}
use Rattle.flow_defs.specs.Stages.{IsToken}
use Rattle.flow_defs.specs.Jobs.{IsJob}
use Rattle.flow_defs.specs.declared.job.Job.{Job}
use Rattle.flow_defs.specs.declared.job.Stage.{Stage}
use Rattle.flow_defs.specs.declared.job.StageKind.{StageKind}
use Rattle.flow_defs.specs.declared.job.StageKind.TheVariants.{Words, Upper, Keep, Field}
use Rattle.flow_defs.specs.declared.job.AggKind.{AggKind}
use Rattle.flow_defs.specs.declared.job.AggKind.TheVariants.{Count, Sum, Max}
use Rattle.flow_defs.specs.declared.job.Exchange.{Exchange}
use Rattle.flow_defs.specs.declared.job.Exchange.TheVariants.{Hash, Rebalance, Forward}
use Rattle.stage_fns.specs.Functions.{Functions, HasStage, HasAgg}

-- How a kind of stages is spelled, with its argument.
abbrev pub kind_word : StageKind → List ℕ → List ℕ
kind_word Words arg = codes "words"
kind_word Upper arg = codes "upper"
kind_word Keep arg = codes "keep:" ++ arg
kind_word Field arg = codes "field:" ++ arg

-- How an exchange is spelled.
abbrev pub exchange_word : Exchange → List ℕ
exchange_word Hash = codes "hash"
exchange_word Rebalance = codes "rebalance"
exchange_word Forward = codes "forward"

-- How a kind of aggregates is spelled.
abbrev pub agg_word : AggKind → List ℕ
agg_word Count = codes "count"
agg_word Sum = codes "sum"
agg_word Max = codes "max"

-- The line of these words: there is one space between two of them.
abbrev pub line_of : List (List ℕ) → List ℕ
line_of words = join_with_byte 32 words

-- The line of a source, which names its file.
abbrev pub source_line : List ℕ → List ℕ
source_line file = line_of (codes "source" ∷ file ∷ [])

-- The line of a stage: its kind, its tasks, and how records come into it.
abbrev pub stage_line : Stage → List ℕ
stage_line stage = line_of (codes "stage" ∷ kind_word stage.kind stage.arg.items ∷ decimal stage.tasks ∷ exchange_word stage.exchange ∷ [])

-- The line of the aggregate: its kind and its tasks.
abbrev pub aggregate_line : AggKind → ℕ → List ℕ
aggregate_line kind tasks = line_of (codes "aggregate" ∷ agg_word kind ∷ decimal tasks ∷ [])

-- The lines of sources and stages.
abbrev pub head_lines : List (Items ℕ) → List Stage → List (List ℕ)
head_lines sources stages = map (λ (file : Items ℕ). source_line file.items) sources ++ map stage_line stages

-- The lines of a job.
abbrev pub job_lines : Job → List (List ℕ)
job_lines job = head_lines job.sources.items job.stages.items ++ aggregate_line job.agg job.agg_tasks ∷ []

-- The text is of this job: it has the job's lines, the last of them with or without its newline; the
-- job is one as its grammar allows it, each source is a file's name, and each kind has a function.
-- Two jobs of one text differ in the room of their lists alone, so a clause may speak of any of them.
pub record IsJobText (functions : Functions) (text : List ℕ) (job : Job) : Type 0 where
  pub lines_are : lines text ≡ job_lines job
  pub text_is : job.text.items ≡ text
  pub is_job : IsJob job
  pub names : AllByRecursion (λ (file : Items ℕ). IsToken file.items) job.sources.items
  pub stage_functions : AllByRecursion (λ (stage : Stage). HasStage functions stage.kind) job.stages.items
  pub agg_function : HasAgg functions job.agg
