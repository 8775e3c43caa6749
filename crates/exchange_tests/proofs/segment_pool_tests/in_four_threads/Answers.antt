use Rattle.std.proofs.Common.{rules, arith}
use Rattle.segment_pool.specs.Passes.{out}
use Rattle.exchange_tests.proofs.PoolsClosed.{sum_none}
use Rattle.exchange_tests.proofs.segment_pool_tests.in_four_threads.Goals as goal

pub join-a-requires-after_bounds : goal.join-a-requires-after_bounds
join-a-requires-after_bounds g c κs within =
    let no_limits = c.in-Ok.ensures.opened.0.2 in let zero = sum_none out c.in-Ok.passes.items c.in-Ok.ensures.none_out in
    let out_d = c.deal-d.ensures.out in let out_c = c.deal-c.ensures.out in let out_b = c.deal-b.ensures.out in let out_a = c.deal-a.ensures.out in (
      ((c.deal-a.ensures.pass.0, omega arith, c.deal-b.ensures.pass.0, omega arith, no_limits), search rules),
      ((c.deal-c.ensures.pass.0, omega arith, c.deal-d.ensures.pass.0, omega arith, no_limits), search rules),
    )
