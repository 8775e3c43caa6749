use Rattle.checkpoint_laws.proofs.Told.{stretches_are_records, snapshot_ends_chapter}
use Rattle.checkpoint_laws.proofs.laws.accounts_tell.Goals as goal

pub returns : goal.returns
returns c = record { records = stretches_are_records; snapshots = snapshot_ends_chapter }
