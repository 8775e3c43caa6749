-- The tally as one pass through all stages, and tables filled in parts.
use Rattle.std.proofs.Common.{◌≡◌, ◌-◌, List, [], ◌∷◌, length, take, refl, ap, ◌∙◌, arith}
use Rattle.std.specs.Prelude.{flat_map}
use Rattle.flow_defs.specs.declared.job.Stage.{Stage}
use Rattle.flow_defs.specs.Jobs.{last_edge, tasks}
use Rattle.flow_defs.specs.Tables.{add, table_of}
use Rattle.plain_machine.specs.Worth.{through, concat_below}
use Rattle.plain_machine.specs.Theorems.{TallyThroughStages, AddedInParts}

take_all : (stages : List Stage) → take (length stages) stages ≡ stages
take_all [] = refl
take_all (s ∷ stages) = ap (λ rest. s ∷ rest) (take_all stages)

pub tally_through_stages : TallyThroughStages
tally_through_stages job lines =
    let all : last_edge job - 0 ≡ last_edge job = omega arith in
    ap (λ stages. table_of job.agg (flat_map (through stages) (concat_below (tasks job 0) lines)))
    (ap (λ n. take n job.stages.items) all ∙ take_all job.stages.items)

pub added_in_parts : AddedInParts
added_in_parts agg table [] second = refl
added_in_parts agg table (r ∷ first) second = added_in_parts agg (add agg table r) first second
