use Rattle.plain_machine.proofs.RecordedLemmas.{recorded_is_successor}
use Rattle.plain_machine.proofs.laws.recorded_is_successor.Goals as goal

pub returns : goal.returns
returns c = record { successor = recorded_is_successor }
