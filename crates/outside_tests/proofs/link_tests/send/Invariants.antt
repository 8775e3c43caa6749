use Rattle.std.proofs.Common.{◌≡◌, false}
use Rattle.outside_tests.proofs.link_tests.send.Given as goal

abbrev pub invariant-loop-round : goal.invariant-loop-round
invariant-loop-round g l = record { open_end : l.out.finished ≡ false; cell : l.out.cell ≡ l.fn.out.cell }
