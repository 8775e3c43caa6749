use Rattle.std.proofs.Common.{◌≡◌, length}
use Rattle.job_cells.proofs.pools.limits_of.Given as goal

abbrev pub invariant-loop-want : goal.invariant-loop-want
invariant-loop-want l = length l.limits.items ≡ l._want-index
