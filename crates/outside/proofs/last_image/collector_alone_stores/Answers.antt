use Rattle.outside.proofs.LastImages.{collected, others}
use Rattle.outside.proofs.last_image.collector_alone_stores.Goals as goal

pub returns-clause-all : goal.returns-clause-all
returns-clause-all c = collected

pub returns-clause-others : goal.returns-clause-others
returns-clause-others c = others
