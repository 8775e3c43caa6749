use Rattle.plain_machine.proofs.EmitLemmas.{emitted_in_parts, counted_in_parts, emitted_are_short}
use Rattle.plain_machine.proofs.laws.emits_in_parts.Goals as goal

pub returns-clause-records : goal.returns-clause-records
returns-clause-records c = emitted_in_parts

pub returns-clause-count : goal.returns-clause-count
returns-clause-count c = counted_in_parts

pub returns-clause-short : goal.returns-clause-short
returns-clause-short c = emitted_are_short
