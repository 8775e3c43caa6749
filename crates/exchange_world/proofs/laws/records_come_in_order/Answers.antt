use Rattle.exchange_world.proofs.Order.{records_come_in_order}
use Rattle.exchange_world.proofs.laws.records_come_in_order.Goals as goal

pub returns : goal.returns
returns c = record { order = records_come_in_order }
