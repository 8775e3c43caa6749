use Rattle.std.proofs.Common.{◌≡◌}
use Rattle.collecting_worker.proofs.ahead.take_numbered.Given as goal

abbrev pub invariant-loop-i : goal.invariant-loop-i
invariant-loop-i l = l.ahead ≡ l.fn.ahead
