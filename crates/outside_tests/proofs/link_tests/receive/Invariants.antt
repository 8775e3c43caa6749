use Rattle.std.proofs.Common.{◌≡◌}
use Rattle.outside_tests.proofs.link_tests.receive.Given as goal

abbrev pub invariant-loop-round : goal.invariant-loop-round
invariant-loop-round g l = l.input.cell ≡ l.fn.input.cell
