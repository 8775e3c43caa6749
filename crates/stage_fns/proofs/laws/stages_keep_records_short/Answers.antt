use Rattle.stage_fns.proofs.Lengths.{given_short}
use Rattle.stage_fns.proofs.laws.stages_keep_records_short.Goals as goal

pub returns : goal.returns
returns c = given_short
