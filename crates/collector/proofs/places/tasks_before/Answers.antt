use Rattle.std.proofs.Common.{◌≡◌, ◌+◌, suc, arith, ap, ◌∙◌}
use Rattle.flow_defs.specs.Jobs.{tasks, sum_below}
use Rattle.collector.proofs.places.tasks_before.Goals as goal

pub overflow_add-before : goal.overflow_add-before
overflow_add-before c = omega (arith, c.tasks.ensures.few, c.requires.job.stages, c.loop-i.invariant.few)

pub loop-i-preserved : goal.loop-i-preserved
loop-i-preserved c =
    let i = c.loop-i.i in
    let job = c.args.job.now in
    record {
      is = ap (λ n. n + c.tasks.result) c.loop-i.invariant.is ∙ ap (λ n. sum_below i (tasks job) + n) c.tasks.ensures.is ∙ ap (λ k. sum_below k (tasks job)) (let next : suc i ≡ i + 1 = omega arith in next);
      few = omega (arith, c.tasks.ensures.few, c.loop-i.invariant.few);
    }
