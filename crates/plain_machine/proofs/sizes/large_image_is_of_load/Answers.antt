use Rattle.plain_machine.proofs.LargeImages.{large_image_is_of_load, large_image_is_of_heavy_edge}
use Rattle.plain_machine.proofs.sizes.large_image_is_of_load.Goals as goal

pub returns-clause-base : goal.returns-clause-base
returns-clause-base c = large_image_is_of_load

pub returns-clause-start : goal.returns-clause-start
returns-clause-start c = large_image_is_of_heavy_edge
