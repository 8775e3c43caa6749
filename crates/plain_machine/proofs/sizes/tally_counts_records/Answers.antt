use Rattle.plain_machine.proofs.CountedRecords.{tally_counts_records}
use Rattle.plain_machine.proofs.sizes.tally_counts_records.Goals as goal

pub returns : goal.returns
returns c = record { sum = tally_counts_records }
