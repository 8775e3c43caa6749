-- Which kinds have a function, for one who reads the text of a job. That a text may be read as if
-- every kind had one is this project's own choice.
use Rattle.std.specs.Prelude.{[], ◌∷◌}
use Rattle.flow_defs.specs.declared.job.StageKind.TheVariants.{Words, Upper, Keep, Field}
use Rattle.flow_defs.specs.declared.job.AggKind.TheVariants.{Count, Sum, Max}
use Rattle.stage_fns.specs.Functions.{Functions}
use Rattle.stage_fns.specs.Kinds.{kinds}
use Rattle.job_text.specs.declared.known.Known.{Known}
use Rattle.job_text.specs.declared.known.Known.TheVariants.{Every, Table}

-- All kinds have a function.
abbrev pub every_kind : Functions
every_kind = record { stages = Words ∷ Upper ∷ Keep ∷ Field ∷ []; aggs = Count ∷ Sum ∷ Max ∷ [] }

-- The kinds that have one.
abbrev pub known : {S A F G f g : _} → Known S A F G f g → Functions
known Every = every_kind
known (Table functions) = kinds functions.now
