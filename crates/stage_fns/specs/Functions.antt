-- Which kinds of stages and aggregates have a function. That a program hands such functions in is
-- this project's own choice.
use Rattle.std.specs.Prelude.{Bool, true, false, IsTrue, List, [], ◌∷◌, ◌++◌}
use Rattle.std.specs.List.{list_any}
use Rattle.flow_defs.specs.declared.job.StageKind.{StageKind}
use Rattle.flow_defs.specs.declared.job.StageKind.TheVariants.{Words, Upper, Keep, Field}
use Rattle.flow_defs.specs.declared.job.AggKind.{AggKind}
use Rattle.flow_defs.specs.declared.job.AggKind.TheVariants.{Count, Sum, Max}

-- The kinds that have a function, in the order in which they were added.
pub record Functions : Type 0 where
  pub stages : List StageKind
  pub aggs : List AggKind

abbrev pub no_functions : Functions
no_functions = record { stages = []; aggs = [] }

-- Whether two kinds are one.
abbrev pub is_stage : StageKind → StageKind → Bool
is_stage Words Words = true
is_stage Upper Upper = true
is_stage Keep Keep = true
is_stage Field Field = true
is_stage kind other = false

abbrev pub is_agg : AggKind → AggKind → Bool
is_agg Count Count = true
is_agg Sum Sum = true
is_agg Max Max = true
is_agg kind other = false

-- Whether a kind has a function.
abbrev pub has_stage : Functions → StageKind → Bool
has_stage functions kind = list_any (λ other. is_stage other kind) functions.stages

abbrev pub has_agg : Functions → AggKind → Bool
has_agg functions kind = list_any (λ other. is_agg other kind) functions.aggs

abbrev pub HasStage : Functions → StageKind → Type 0
HasStage functions kind = IsTrue (has_stage functions kind)

abbrev pub HasAgg : Functions → AggKind → Type 0
HasAgg functions kind = IsTrue (has_agg functions kind)

-- The same functions and one more.
abbrev pub with_stage : Functions → StageKind → Functions
with_stage functions kind = record functions { stages = functions.stages ++ kind ∷ [] }

abbrev pub with_agg : Functions → AggKind → Functions
with_agg functions kind = record functions { aggs = functions.aggs ++ kind ∷ [] }
