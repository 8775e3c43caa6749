-- The shape of a job: how many tasks its stages have, and how records go between them. In Flink, too, a
-- job's parallelism and exchanges are known without its functions. How a text says a shape is this
-- project's own choice.
use Rattle.std.specs.Prelude.{◌≡◌, ℕ, suc, List, [], ◌∷◌, length, map, replicate, unwrap_or}
use Rattle.flow_defs.specs.Items.{Items}
use Rattle.flow_defs.specs.Lines.{lines}
use Rattle.flow_defs.specs.Stages.{pieces}
use Rattle.flow_defs.specs.declared.job.Job.{Job}
use Rattle.flow_defs.specs.declared.job.Stage.{Stage}
use Rattle.flow_defs.specs.declared.job.StageKind.TheVariants.{Words}
use Rattle.flow_defs.specs.declared.job.AggKind.TheVariants.{Count}
use Rattle.flow_defs.specs.declared.job.Exchange.TheVariants.{Hash}
use Rattle.job_text.specs.declared.shape.StageShape.{StageShape}
use Rattle.job_text.specs.JobText.{IsJobText}
use Rattle.job_text.specs.JobFaults.{tasks_of, exchange_of}
use Rattle.job_text.specs.KnownKinds.{every_kind}

-- How many sources there are, the stages behind them, and how many tasks the aggregate has.
pub record Shape : Type 0 where
  pub sources : ℕ
  pub stages : List StageShape
  pub aggregate : ℕ

-- A stage without its kind.
abbrev pub stage_shape : Stage → StageShape
stage_shape stage = record { tasks = stage.tasks; exchange = stage.exchange }

-- The shape of a job.
abbrev pub shape_of : Job → Shape
shape_of job = record { sources = length job.sources.items; stages = map stage_shape job.stages.items; aggregate = job.agg_tasks }

-- The shape that a line of these words says, before the lines of another one.
abbrev pub with_words : List (List ℕ) → Shape → Shape
with_words (first ∷ file ∷ []) shape = record shape { sources = suc shape.sources }
with_words (first ∷ kind ∷ tasks ∷ []) shape = record shape { aggregate = tasks_of tasks }
with_words (first ∷ kind ∷ tasks ∷ exchange ∷ words) shape = record shape { stages = record { tasks = tasks_of tasks; exchange = unwrap_or (exchange_of exchange) Hash } ∷ shape.stages }
with_words words shape = shape

-- The shape that lines say, line by line.
abbrev pub shape_in : List (List ℕ) → Shape
shape_in [] = record { sources = 0; stages = []; aggregate = 0 }
shape_in (line ∷ rest) = with_words (pieces 32 line) (shape_in rest)

-- The shape that a text says. Where the text is of a job it is that job's.
abbrev pub said : List ℕ → Shape
said text = shape_in (lines text)

-- These items, with no room.
abbrev pub full : {T : Type 0} → List T → Items T
full items = record { items = items; room = 0 }

-- A stage of this shape, of which nothing else is said.
abbrev pub plain_stage : StageShape → Stage
plain_stage stage = record { kind = Words; arg = full []; tasks = stage.tasks; exchange = stage.exchange }

-- A job of this shape, of which nothing else is said.
abbrev pub job_of : Shape → Job
job_of shape = record {
  sources = full (replicate shape.sources (full []));
  stages = full (map plain_stage shape.stages);
  agg = Count;
  agg_tasks = shape.aggregate;
  text = full [];
}

-- It is the shape of a job of this text.
pub record IsShapeOf (text : List ℕ) (shape : Shape) : Type 0 where
  pub job : Job
  pub job_text : IsJobText every_kind text job
  pub shape_is : shape ≡ shape_of job
