use Rattle.collecting_worker.proofs.Told.{stored_are_collected}
use Rattle.collecting_worker.proofs.laws.stored_images_are_collected.Goals as goal

pub returns : goal.returns
returns c = record { collected = stored_are_collected }
