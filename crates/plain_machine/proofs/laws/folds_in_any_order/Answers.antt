use Rattle.plain_machine.proofs.FoldLemmas.{folded-comm, folded-assoc, zero_neutral}
use Rattle.plain_machine.proofs.laws.folds_in_any_order.Goals as goal

pub returns-clause-commutative : goal.returns-clause-commutative
returns-clause-commutative c = folded-comm

pub returns-clause-associative : goal.returns-clause-associative
returns-clause-associative c = folded-assoc

pub returns-clause-neutral : goal.returns-clause-neutral
returns-clause-neutral c = zero_neutral
