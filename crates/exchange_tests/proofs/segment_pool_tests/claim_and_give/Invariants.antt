use Rattle.std.proofs.Common.{◌≡◌}
use Rattle.segment_pool.specs.Passes.{number, out}
use Rattle.segment_pool.specs.Pools.{IsPassOf}
use Rattle.exchange_tests.proofs.segment_pool_tests.claim_and_give.Given as goal

abbrev pub invariant-loop-round : goal.invariant-loop-round
invariant-loop-round g l = record { own : IsPassOf l.pool l.pass; same_number : number l.pass ≡ number l.fn.pass; none_out : out l.pass ≡ 0 }
