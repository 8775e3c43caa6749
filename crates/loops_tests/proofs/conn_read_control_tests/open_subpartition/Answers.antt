use Rattle.std.proofs.Common.{[], sym, subst, arith}
use Rattle.subpartition.specs.Standing.{QueueStandsFor}
use Rattle.loops_tests.proofs.conn_read_control_tests.open_subpartition.Goals as goal

pub new-requires-2 : goal.new-requires-2
new-requires-2 g c = (omega arith, subst (λ queue. QueueStandsFor queue []) (sym c.in-Ok.ensures) (c.calls_add_entries.ensures.new 128 4))
