use Rattle.plain_machine.proofs.CountLemmas.{finished_chain_is_counted}
use Rattle.plain_machine.proofs.sizes.finished_chain_is_counted.Goals as goal

pub returns : goal.returns
returns c = record { count = finished_chain_is_counted }
