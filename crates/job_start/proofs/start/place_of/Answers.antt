use Rattle.std.proofs.Common.{◌≡◌, ◌+◌, suc, arith, ap}
use Rattle.flow_defs.specs.Jobs.{tasks, sum_below}
use Rattle.job_start.proofs.start.place_of.Goals as goal

pub loop-before-init : goal.loop-before-init
loop-before-init c =
    let few = (c.requires.job.counts c.args.stage (omega (arith, c.requires.task.0))).1 in
    record { is = omega arith; few = omega (arith, c.requires.task.1, few) }

pub overflow_add-place : goal.overflow_add-place
overflow_add-place c = omega (arith, c.tasks.ensures.few, c.requires.job.stages, c.requires.task.0, c.loop-before.invariant.few)

pub loop-before-preserved : goal.loop-before-preserved
loop-before-preserved c =
    let i = c.loop-before.before in
    let job = c.args.job.now in
    let next : sum_below (i + 1) (tasks job) ≡ sum_below i (tasks job) + tasks job i = ap (λ k. sum_below k (tasks job)) (let n : i + 1 ≡ suc i = omega arith in n) in
    record {
      is = omega (arith, c.loop-before.invariant.is, c.tasks.ensures.is, next);
      few = omega (arith, c.tasks.ensures.few, c.loop-before.invariant.few);
    }
