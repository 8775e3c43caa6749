use Rattle.std.proofs.Common.{◌≡◌, false}
use Rattle.loops_tests.proofs.conn_parts_tests.send.Given as goal

abbrev pub invariant-loop-sequence : goal.invariant-loop-sequence
invariant-loop-sequence g l = l.out.finished ≡ false
