use Rattle.std.proofs.Common.{[], ◌∷◌, refl, arith}
use Rattle.segment_pool.specs.Passes.{number, out}
use Rattle.segment_pool.specs.Pools.{limits_of}
use Rattle.exchange_tests.proofs.PoolsClosed.{sum_none}
use Rattle.exchange_tests.proofs.InOrder.{below}
use Rattle.exchange_tests.proofs.segment_pool_tests.write_and_read.Goals as goal

pub claim_within-segment-requires-clause-limit : goal.claim_within-segment-requires-clause-limit
claim_within-segment-requires-clause-limit g c =
    let zero = sum_none out c.in-Ok.passes.items c.in-Ok.ensures.none_out in let all = c.in-Ok.ensures.opened.1 in
    let rest = c.deal-pass.ensures.rest.1 in let out_of = c.deal-pass.ensures.out in let number_of = c.deal-pass.ensures.pass.1 in
    below (limits_of c.in-Ok.pool) (1 ∷ []) (number c.deal-pass.result) 0 (out c.deal-pass.result) c.in-Ok.ensures.opened.0.2 (omega arith) (omega arith, omega arith)

pub unreachable-requires : goal.unreachable-requires
unreachable-requires g c =
    let zero = sum_none out c.in-Ok.passes.items c.in-Ok.ensures.none_out in let all = c.in-Ok.ensures.opened.1 in
    let rest = c.deal-pass.ensures.rest.1 in let out_of = c.deal-pass.ensures.out in let number_of = c.deal-pass.ensures.pass.1 in
    let took = c.claim_within-segment.ensures.out in let given = c.give.ensures.out in let back = c.take_back.ensures.out in let some = c.in_default-closed.ensures.exact.0 refl in
    omega arith
