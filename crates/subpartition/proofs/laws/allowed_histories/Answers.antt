use Rattle.subpartition.proofs.Allowed.{barriers_are_numbered, end_is_last}
use Rattle.subpartition.proofs.laws.allowed_histories.Goals as goal

pub returns : goal.returns
returns c = record { numbers = barriers_are_numbered; end = end_is_last }
