use Rattle.plain_machine.proofs.TallyLemmas.{tally_through_stages, added_in_parts}
use Rattle.plain_machine.proofs.AnyOrder.{added_in_any_order}
use Rattle.plain_machine.proofs.laws.tally_in_parts.Goals as goal

pub returns-clause-stages : goal.returns-clause-stages
returns-clause-stages c = tally_through_stages

pub returns-clause-added : goal.returns-clause-added
returns-clause-added c = added_in_parts

pub returns-clause-any_order : goal.returns-clause-any_order
returns-clause-any_order c = added_in_any_order
