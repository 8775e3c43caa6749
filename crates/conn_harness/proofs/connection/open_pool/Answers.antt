use Rattle.conn_harness.proofs.TaskLaws.{all_ready}
use Rattle.conn_harness.proofs.connection.open_pool.Goals as goal

pub returns-in-Ok-clause-passes : goal.returns-in-Ok-clause-passes
returns-in-Ok-clause-passes c = all_ready c.in-Ok.pool c.in-Ok.passes.items c.in-Ok.ensures.made c.in-Ok.ensures.none_out
