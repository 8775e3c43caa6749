-- What holds of every text of a job, and of the words of every command.
use Rattle.std.specs.Prelude.{◌≡◌, ℕ, List, map, None}
use Rattle.flow_defs.specs.Items.{Items}
use Rattle.flow_defs.specs.Jobs.{last_edge, tasks, exchange}
use Rattle.flow_defs.specs.declared.job.Job.{Job}
use Rattle.flow_defs.specs.declared.job.Stage.{Stage}
use Rattle.stage_fns.specs.Functions.{Functions}
use Rattle.job_text.specs.JobText.{IsJobText}
use Rattle.job_text.specs.JobFaults.{first_fault}
use Rattle.job_text.specs.Shapes.{said, shape_of}
use Rattle.job_text.specs.declared.words.Command.{Command}
use Rattle.job_text.specs.declared.words.RunOptions.{RunOptions}
use Rattle.job_text.specs.Words.{IsCommand, IsRun, HasRange, usage_fault}

-- A text of a job has no fault.
abbrev pub JobTextHasNoFault : Type 0
JobTextHasNoFault = (functions : Functions) (text : List ℕ) (job : Job) → IsJobText functions text job → first_fault functions text ≡ None

-- The files that a job reads, from the first source on.
abbrev pub source_files : Job → List (List ℕ)
source_files job = map (λ (file : Items ℕ). file.items) job.sources.items

-- All jobs of a text read the same files.
abbrev pub JobTextNamesItsFiles : Type 0
JobTextNamesItsFiles =
    (functions : Functions) (text : List ℕ) (job other : Job) → IsJobText functions text job → IsJobText functions text other →
    source_files job ≡ source_files other

-- Two jobs have the same tasks and edges.
pub record HaveSameTasks (job other : Job) : Type 0 where
  pub edges : last_edge job ≡ last_edge other
  pub widths : (i : ℕ) → tasks job i ≡ tasks other i
  pub exchanges : (e : ℕ) → exchange job e ≡ exchange other e

-- All jobs of a text have the same tasks and edges.
abbrev pub JobTextSaysTasks : Type 0
JobTextSaysTasks = (functions : Functions) (text : List ℕ) (job other : Job) → IsJobText functions text job → IsJobText functions text other → HaveSameTasks job other

-- Two jobs do the same work: each stage has the same kind and argument in both, and so has the aggregate its kind.
pub record HaveSameWork (job other : Job) : Type 0 where
  pub kinds : map (λ (s : Stage). s.kind) job.stages.items ≡ map (λ (s : Stage). s.kind) other.stages.items
  pub arguments : map (λ (s : Stage). s.arg.items) job.stages.items ≡ map (λ (s : Stage). s.arg.items) other.stages.items
  pub aggregate : job.agg ≡ other.agg

-- All jobs of a text do the same work.
abbrev pub JobTextSaysWork : Type 0
JobTextSaysWork = (functions : Functions) (text : List ℕ) (job other : Job) → IsJobText functions text job → IsJobText functions text other → HaveSameWork job other

-- A text says the shape of its job.
abbrev pub JobTextSaysShape : Type 0
JobTextSaysShape = (functions : Functions) (text : List ℕ) (job : Job) → IsJobText functions text job → said text ≡ shape_of job

-- The words of a command have no fault.
abbrev pub CommandHasNoFault : Type 0
CommandHasNoFault = (words : List (List ℕ)) (command : Command) → IsCommand words command → usage_fault words ≡ None

-- Words are of one command at most: they say its operand and its options.
abbrev pub WordsAreOneCommand : Type 0
WordsAreOneCommand = (words : List (List ℕ)) (command other : Command) → IsCommand words command → IsCommand words other → command ≡ other

-- The options of a run are in their ranges.
abbrev pub RunHasRange : Type 0
RunHasRange = (words : List (List ℕ)) (job : List ℕ) (options : RunOptions) → IsRun words job options → HasRange options
