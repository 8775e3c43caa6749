use Rattle.plain_machine.proofs.ChainLemmas.{chain_goes_on, steps_make_chain}
use Rattle.plain_machine.proofs.laws.steps_make_chain.Goals as goal

pub returns-clause-goes_on : goal.returns-clause-goes_on
returns-clause-goes_on c = chain_goes_on

pub returns-clause-steps : goal.returns-clause-steps
returns-clause-steps c = steps_make_chain
