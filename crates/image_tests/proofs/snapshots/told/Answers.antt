use Rattle.image_tests.proofs.NoState.{fits_any}
use Rattle.image_tests.proofs.snapshots.told.Goals as goal

pub returns-clause-fits : goal.returns-clause-fits
returns-clause-fits c = λ job. fits_any job _ c.new.ensures c.new-2.ensures c.new-3.ensures c.new-4.ensures
