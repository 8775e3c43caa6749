use Rattle.credit_reader.proofs.Adding.{adds_up}
use Rattle.credit_reader.proofs.laws.credit_adds_up.Goals as goal

pub returns : goal.returns
returns c = adds_up
