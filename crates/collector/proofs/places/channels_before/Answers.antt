use Rattle.std.proofs.Common.{◌≡◌, ◌+◌, suc, arith, ap, ◌∙◌}
use Rattle.flow_defs.specs.Jobs.{edge_width, sum_below}
use Rattle.collector.proofs.places.channels_before.Goals as goal

pub overflow_add-before : goal.overflow_add-before
overflow_add-before c = omega (arith, c.width.ensures.few, c.requires.job.stages, c.loop-i.invariant.few)

pub loop-i-preserved : goal.loop-i-preserved
loop-i-preserved c =
    let i = c.loop-i.i in
    let job = c.args.job.now in
    record {
      is = ap (λ n. n + c.width.result) c.loop-i.invariant.is ∙ ap (λ n. sum_below i (edge_width job) + n) c.width.ensures.is ∙ ap (λ k. sum_below k (edge_width job)) (let next : suc i ≡ i + 1 = omega arith in next);
      few = omega (arith, c.width.ensures.few, c.loop-i.invariant.few);
    }
