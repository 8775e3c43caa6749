use Rattle.std.proofs.Common.{◌≡◌, take}
use Rattle.local_pool.specs.Shares.{needs}
use Rattle.local_pool.proofs.shares.needs_of.Given as goal

abbrev pub invariant-loop-want : goal.invariant-loop-want
invariant-loop-want l = l.needs ≡ needs (take l.want-index l.wants)
