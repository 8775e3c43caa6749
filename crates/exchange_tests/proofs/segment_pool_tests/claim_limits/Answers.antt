use Rattle.std.proofs.Common.{[], ◌∷◌, refl, arith}
use Rattle.segment_pool.specs.Passes.{number, out}
use Rattle.segment_pool.specs.Pools.{limits_of}
use Rattle.exchange_tests.proofs.PoolsClosed.{sum_none}
use Rattle.exchange_tests.proofs.InOrder.{below}
use Rattle.exchange_tests.proofs.segment_pool_tests.claim_limits.Goals as goal

pub claim_within-a-requires-clause-limit : goal.claim_within-a-requires-clause-limit
claim_within-a-requires-clause-limit g c =
    let zero = sum_none out c.in-Ok.passes.items c.in-Ok.ensures.none_out in let all = c.in-Ok.ensures.opened.1 in let rest_s = c.deal-second.ensures.rest.1 in let rest_f = c.deal-first.ensures.rest.1 in
    let out_s = c.deal-second.ensures.out in let out_f = c.deal-first.ensures.out in let number_s = c.deal-second.ensures.pass.1 in let number_f = c.deal-first.ensures.pass.1 in
    below (limits_of c.in-Ok.pool) (2 ∷ 3 ∷ []) (number c.deal-first.result) 0 (out c.deal-first.result) c.in-Ok.ensures.opened.0.2 (omega arith) (omega arith, omega arith)

pub claim_within-b-requires-clause-limit : goal.claim_within-b-requires-clause-limit
claim_within-b-requires-clause-limit g c =
    let zero = sum_none out c.in-Ok.passes.items c.in-Ok.ensures.none_out in let all = c.in-Ok.ensures.opened.1 in let rest_s = c.deal-second.ensures.rest.1 in let rest_f = c.deal-first.ensures.rest.1 in
    let out_s = c.deal-second.ensures.out in let out_f = c.deal-first.ensures.out in let number_s = c.deal-second.ensures.pass.1 in let number_f = c.deal-first.ensures.pass.1 in
    let took_a = c.claim_within-a.ensures.out in let same_a = c.claim_within-a.ensures.pass.1 in
    below (limits_of c.in-Ok.pool) (2 ∷ 3 ∷ []) (number c.claim_within-a.new.pass) 0 (out c.claim_within-a.new.pass) c.in-Ok.ensures.opened.0.2 (omega arith) (omega arith, omega arith)

pub claim_within-c-requires-clause-limit : goal.claim_within-c-requires-clause-limit
claim_within-c-requires-clause-limit g c =
    let zero = sum_none out c.in-Ok.passes.items c.in-Ok.ensures.none_out in let all = c.in-Ok.ensures.opened.1 in let rest_s = c.deal-second.ensures.rest.1 in let rest_f = c.deal-first.ensures.rest.1 in
    let out_s = c.deal-second.ensures.out in let out_f = c.deal-first.ensures.out in let number_s = c.deal-second.ensures.pass.1 in let number_f = c.deal-first.ensures.pass.1 in
    below (limits_of c.in-Ok.pool) (2 ∷ 3 ∷ []) (number c.deal-second.result) 1 (out c.deal-second.result) c.in-Ok.ensures.opened.0.2 (omega arith) (omega arith, omega arith)

pub claim_within-d-requires-clause-limit : goal.claim_within-d-requires-clause-limit
claim_within-d-requires-clause-limit g c =
    let zero = sum_none out c.in-Ok.passes.items c.in-Ok.ensures.none_out in let all = c.in-Ok.ensures.opened.1 in let rest_s = c.deal-second.ensures.rest.1 in let rest_f = c.deal-first.ensures.rest.1 in
    let out_s = c.deal-second.ensures.out in let out_f = c.deal-first.ensures.out in let number_s = c.deal-second.ensures.pass.1 in let number_f = c.deal-first.ensures.pass.1 in
    let took_c = c.claim_within-c.ensures.out in let same_c = c.claim_within-c.ensures.pass.1 in
    below (limits_of c.in-Ok.pool) (2 ∷ 3 ∷ []) (number c.claim_within-c.new.pass) 1 (out c.claim_within-c.new.pass) c.in-Ok.ensures.opened.0.2 (omega arith) (omega arith, omega arith)

pub claim_within-e-requires-clause-limit : goal.claim_within-e-requires-clause-limit
claim_within-e-requires-clause-limit g c =
    let zero = sum_none out c.in-Ok.passes.items c.in-Ok.ensures.none_out in let all = c.in-Ok.ensures.opened.1 in let rest_s = c.deal-second.ensures.rest.1 in let rest_f = c.deal-first.ensures.rest.1 in
    let out_s = c.deal-second.ensures.out in let out_f = c.deal-first.ensures.out in let number_s = c.deal-second.ensures.pass.1 in let number_f = c.deal-first.ensures.pass.1 in
    let took_c = c.claim_within-c.ensures.out in let same_c = c.claim_within-c.ensures.pass.1 in let took_d = c.claim_within-d.ensures.out in let same_d = c.claim_within-d.ensures.pass.1 in
    below (limits_of c.in-Ok.pool) (2 ∷ 3 ∷ []) (number c.claim_within-d.new.pass) 1 (out c.claim_within-d.new.pass) c.in-Ok.ensures.opened.0.2 (omega arith) (omega arith, omega arith)

pub unreachable-requires : goal.unreachable-requires
unreachable-requires g c =
    let zero = sum_none out c.in-Ok.passes.items c.in-Ok.ensures.none_out in let all = c.in-Ok.ensures.opened.1 in let rest_s = c.deal-second.ensures.rest.1 in let rest_f = c.deal-first.ensures.rest.1 in
    let out_s = c.deal-second.ensures.out in let out_f = c.deal-first.ensures.out in let number_s = c.deal-second.ensures.pass.1 in let number_f = c.deal-first.ensures.pass.1 in
    let took_a = c.claim_within-a.ensures.out in let took_b = c.claim_within-b.ensures.out in let took_c = c.claim_within-c.ensures.out in let took_d = c.claim_within-d.ensures.out in let took_e = c.claim_within-e.ensures.out in let counted = c.counts-counts.ensures.out in
    let give_a = c.give.ensures.out in let give_b = c.give-2.ensures.out in let give_c = c.give-3.ensures.out in let give_d = c.give-4.ensures.out in let give_e = c.give-5.ensures.out in
    let back_f = c.take_back.ensures.out in let back_s = c.take_back-2.ensures.out in let some = c.in_default-closed.ensures.exact.0 refl in
    omega arith
