use Rattle.plain_machine.proofs.StageLemmas.{no_stage_lengthens}
use Rattle.plain_machine.proofs.laws.no_stage_lengthens.Goals as goal

pub returns : goal.returns
returns c = record { short = no_stage_lengthens }
