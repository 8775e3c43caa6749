-- Jobs that can be run.
use Rattle.std.specs.List.{AllByRecursion}
use Rattle.flow_defs.specs.declared.job.Job.{Job}
use Rattle.flow_defs.specs.declared.job.Stage.{Stage}
use Rattle.flow_defs.specs.Stages.{IsArgument}
use Rattle.stage_fns.specs.Functions.{Functions, HasStage, HasAgg}

-- A stage has an argument of its kind, and its kind has a function.
pub record IsStageReady (functions : Functions) (stage : Stage) : Type 0 where
  pub argument : IsArgument stage.kind stage.arg.items
  pub function : HasStage functions stage.kind

-- All stages of a job are ready, and its aggregate has a function.
pub record CanRun (functions : Functions) (job : Job) : Type 0 where
  pub stages : AllByRecursion (IsStageReady functions) job.stages.items
  pub agg : HasAgg functions job.agg
