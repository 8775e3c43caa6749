use Rattle.conn_run.proofs.Arriving as arriving
use Rattle.conn_run.proofs.laws.items_arrive.Goals as goal

pub returns : goal.returns
returns c = arriving.items_arrive c.read_is_written.ensures c.messages_add_up.ensures.fronts
