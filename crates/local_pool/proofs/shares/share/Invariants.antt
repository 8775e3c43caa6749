use Rattle.std.proofs.Common.{◌≡◌, take, map}
use Rattle.local_pool.specs.Shares.{share_of}
use Rattle.local_pool.proofs.shares.share.Given as goal

abbrev pub invariant-loop-i : goal.invariant-loop-i
invariant-loop-i l = take l.i l.limits ≡ map (share_of l.wants l.total) (take l.i l.wants)
