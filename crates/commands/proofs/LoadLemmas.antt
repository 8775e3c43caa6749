-- An image is too large only where the load of some edge is above what an image can count.
use Rattle.std.proofs.Common.{ℕ, List, Option}
use Rattle.flow_defs.specs.declared.job.Job.{Job}
use Rattle.flow_defs.specs.Jobs.{IsJob}
use Rattle.plain_machine.specs.Loads.{HasHeavyEdge}
use Rattle.plain_machine.specs.Theorems.{StartExists}
use Rattle.plain_machine.specs.SizeTheorems.{LargeImageIsOfHeavyEdge}
use Rattle.outside.specs.Keepers.{KeptImage}
use Rattle.job_outcome.specs.Storing.{IsTooLarge}

pub heavy_of_large : StartExists → LargeImageIsOfHeavyEdge → (job : Job) (lines : ℕ → List (List ℕ)) (every : Option ℕ) (before after : Option (List KeptImage)) → IsJob job → IsTooLarge job lines every before after → HasHeavyEdge job lines
heavy_of_large starts loads job lines every before after is large =
    let start = starts job in
    loads job lines every start.0 large.images large.image is start.1 (large.chain start.0 start.1) large.large
