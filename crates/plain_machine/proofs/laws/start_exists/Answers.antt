use Rattle.plain_machine.proofs.StartLemmas.{start_exists, start_is_start}
use Rattle.plain_machine.proofs.laws.start_exists.Goals as goal

pub returns-clause-exists : goal.returns-clause-exists
returns-clause-exists c = start_exists

pub returns-clause-cut : goal.returns-clause-cut
returns-clause-cut c = start_is_start
