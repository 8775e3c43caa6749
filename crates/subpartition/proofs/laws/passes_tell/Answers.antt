use Rattle.subpartition.proofs.Allowed.{entries_are_history}
use Rattle.subpartition.proofs.Telling.{task_tells_puts, taken_stays}
use Rattle.subpartition.proofs.Heads.{first_item_stays}
use Rattle.subpartition.proofs.laws.passes_tell.Goals as goal

pub returns : goal.returns
returns c = record { entries = entries_are_history; task = task_tells_puts; sender = taken_stays; first = first_item_stays }
