use Rattle.channel_state.proofs.RecordLemmas.{told}
use Rattle.channel_state.proofs.cursor.are_records.Goals as goal

pub returns : goal.returns
returns c = told c.are_records.result _ c.are_records.ensures
