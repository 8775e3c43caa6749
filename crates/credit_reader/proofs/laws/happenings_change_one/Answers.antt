use Rattle.credit_reader.proofs.Finding.{changes_one}
use Rattle.credit_reader.proofs.laws.happenings_change_one.Goals as goal

pub returns : goal.returns
returns c = changes_one
