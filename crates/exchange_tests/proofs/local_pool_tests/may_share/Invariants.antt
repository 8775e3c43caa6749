use Rattle.std.proofs.Common.{◌≡◌, ◌+◌, All, take}
use Rattle.local_pool.specs.Shares.{IsWant, needs}
use Rattle.exchange_tests.proofs.local_pool_tests.may_share.Given as goal

abbrev pub invariant-loop-want : goal.invariant-loop-want
invariant-loop-want l = (l.left + needs (take l.want-index l.wants) ≡ l.total) × All IsWant (take l.want-index l.wants)
