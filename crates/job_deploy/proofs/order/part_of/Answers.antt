use Rattle.job_deploy.proofs.Orders.{between_at}
use Rattle.job_deploy.proofs.order.part_of.Goals as goal

pub returns-clause-each : goal.returns-clause-each
returns-clause-each g c = λ i x at. between_at c.args.items.now c.args.first c.args.many i x c.requires.within at
