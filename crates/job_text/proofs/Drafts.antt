-- A job under way: what a text's lines so far have made.
use Rattle.std.proofs.Common.{◌≡◌, ℕ, ◌≤◌, List, [], ◌∷◌, ◌++◌, length, None}
use Rattle.std.specs.List.{AllByRecursion}
use Rattle.flow_defs.specs.Items.{Items}
use Rattle.flow_defs.specs.Lines.{lines}
use Rattle.flow_defs.specs.Stages.{IsToken}
use Rattle.flow_defs.specs.declared.job.TheConstants.{SOURCES_MAX, STAGES_MAX}
use Rattle.flow_defs.specs.declared.job.Stage.{Stage}
use Rattle.stage_fns.specs.Functions.{Functions}
use Rattle.job_text.specs.declared.lines.JobLines.{JobLines}
use Rattle.job_text.specs.JobText.{head_lines}
use Rattle.job_text.specs.Reading.{IsStageBehind, lines_left, fault_left}

-- The tasks of the last of these stages, or of the stage before them where there are none.
abbrev pub last_tasks : ℕ → List Stage → ℕ
last_tasks before [] = before
last_tasks before (stage ∷ stages) = last_tasks stage.tasks stages

-- The stages may follow one another, behind a stage of so many tasks.
abbrev pub AreStagesBehind : Functions → ℕ → List Stage → Type 0
AreStagesBehind functions before [] = Unit {0}
AreStagesBehind functions before (stage ∷ stages) = IsStageBehind functions before stage.kind stage.arg.items stage.tasks stage.exchange × AreStagesBehind functions stage.tasks stages

-- What was read may begin a job, and the reader stands behind it.
pub record IsDraft (functions : Functions) (text : List ℕ) (sources : List (Items ℕ)) (stages : List Stage) (reader : JobLines) : Type 0 where
  pub lines_are : lines text ≡ head_lines sources stages ++ lines_left reader
  pub no_fault : fault_left functions reader ≡ None
  pub source_count : reader.sources ≡ length sources
  pub stage_count : reader.stages ≡ length stages
  pub tasks_are : reader.tasks ≡ last_tasks (length sources) stages
  pub few_sources : length sources ≤ SOURCES_MAX
  pub names : AllByRecursion (λ (file : Items ℕ). IsToken file.items) sources
  pub few_stages : length stages ≤ STAGES_MAX
  pub stages_fit : AreStagesBehind functions (length sources) stages
