use Rattle.plain_machine.proofs.WorthLemmas.{successor_keeps_worth, start_is_worth_tally}
use Rattle.plain_machine.proofs.ChainLemmas.{same_worth}
use Rattle.plain_machine.proofs.laws.successor_keeps_worth.Goals as goal

pub returns-clause-kept : goal.returns-clause-kept
returns-clause-kept c = successor_keeps_worth

pub returns-clause-start : goal.returns-clause-start
returns-clause-start c = start_is_worth_tally

pub returns-clause-same : goal.returns-clause-same
returns-clause-same c = same_worth
