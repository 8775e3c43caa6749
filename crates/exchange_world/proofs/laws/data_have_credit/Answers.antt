use Rattle.exchange_world.proofs.Credit.{data_have_credit}
use Rattle.exchange_world.proofs.laws.data_have_credit.Goals as goal

pub returns : goal.returns
returns c = record { credit = data_have_credit }
