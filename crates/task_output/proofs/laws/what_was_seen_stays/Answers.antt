use Rattle.task_output.proofs.SeenLaws.{seen_is_waited, waited_stays}
use Rattle.task_output.proofs.laws.what_was_seen_stays.Goals as goal

pub returns-clause-seen : goal.returns-clause-seen
returns-clause-seen c = seen_is_waited

pub returns-clause-stays : goal.returns-clause-stays
returns-clause-stays c = waited_stays
