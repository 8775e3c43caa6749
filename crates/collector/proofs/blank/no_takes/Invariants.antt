use Rattle.std.proofs.Common.{◌≡◌, length}
use Rattle.collector.proofs.blank.no_takes.Given as goal

abbrev pub invariant-loop-made : goal.invariant-loop-made
invariant-loop-made l = length l.takes.items ≡ l._made
