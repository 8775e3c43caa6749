use Rattle.std.proofs.Common.{length, sym, ap, subst, refl, arith}
use Rattle.std.specs.List.{sum_by}
use Rattle.flow_defs.specs.Items.{Items}
use Rattle.segment_pool.specs.declared.pool.Pool.{Pool}
use Rattle.segment_pool.specs.declared.pass.PoolPass.{PoolPass}
use Rattle.segment_pool.specs.Passes.{out}
use Rattle.segment_pool.specs.Pools.{AreInOrder}
use Rattle.exchange_tests.proofs.PoolsClosed.{sum_none}
use Rattle.exchange_tests.proofs.segment_pool_tests.claim_thrice.Goals as goal

pub deal-pass-requires-2 : goal.deal-pass-requires-2
deal-pass-requires-2 g c = let still = c.in-Err.ensures.still_lent in let count = ap (λ (l : Items PoolPass). length l.items) still.1 in (
  subst (λ (p : Pool). AreInOrder p c.in-Err.still.passes.items) (sym still.0) (subst (λ (l : Items PoolPass). AreInOrder c.in-Ok.pool l.items) (sym still.1) c.take_back.ensures.all.0),
  omega arith,
)

pub unreachable-requires : goal.unreachable-requires
unreachable-requires g c =
    let zero = sum_none out c.in-Ok.passes.items c.in-Ok.ensures.none_out in let same = ap (λ (l : Items PoolPass). sum_by out l.items) c.in-Err.ensures.still_lent.1 in
    let first = c.deal-pass.ensures.out in let one = c.claim-first.ensures.out in let two = c.claim-second.ensures.out in let three = c.claim-third.ensures.out in let back = c.take_back.ensures.out in
    let again = c.deal-pass-2.ensures.out in let less = c.give_any.ensures.out in let lesser = c.give_any-2.ensures.out in let least = c.give_any-3.ensures.out in let last = c.take_back-2.ensures.out in
    let some = c.in_default-closed-2.ensures.exact.0 refl in
    omega arith
