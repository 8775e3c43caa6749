use Rattle.plain_machine.proofs.ChainLemmas.{chain_keeps_worth}
use Rattle.plain_machine.proofs.LastLemmas.{chain_is_worth_tally, chain_ends_in_worth, chain_ends_in_tally}
use Rattle.plain_machine.proofs.laws.chain_keeps_worth.Goals as goal

pub returns-clause-kept : goal.returns-clause-kept
returns-clause-kept c = chain_keeps_worth

pub returns-clause-tally : goal.returns-clause-tally
returns-clause-tally c = chain_is_worth_tally

pub returns-clause-last : goal.returns-clause-last
returns-clause-last c = chain_ends_in_worth

pub returns-clause-last_tally : goal.returns-clause-last_tally
returns-clause-last_tally c = chain_ends_in_tally
