use Rattle.std.proofs.Common.{◌≡◌, ◌+◌, ◌∷◌, [], ◌++◌, suc, false, replicate, refl, ap, ◌∙◌, arith}
use Rattle.std.specs.FinMap.{empty}
use Rattle.flow_defs.specs.Jobs.{last_edge, tasks, sum_below}
use Rattle.job_start.proofs.Beginnings.{one_more, is_for_job, is_beginning}
use Rattle.job_start.proofs.start.Start.new.Goals as goal

pub loop-source-preserved : goal.loop-source-preserved
loop-source-preserved c = record {
  offsets = one_more _ _ c.loop-source._source 0 c.loop-source.invariant.offsets c.in_ok-push.ensures.ok;
  ended = one_more _ _ c.loop-source._source false c.loop-source.invariant.ended c.in_ok-push-2.ensures.ok;
}

pub loop-sender-preserved : goal.loop-sender-preserved
loop-sender-preserved c =
    let before = sum_below c.loop-stage.stage (tasks c.args.job.now) in
    let i = c.loop-sender._sender in
    one_more _ _ (before + i) 0 c.loop-sender.invariant c.in_ok-push-3.ensures.ok ∙ ap (λ n. replicate n 0) (let next : before + i + 1 ≡ before + (i + 1) = omega arith in next)

pub loop-stage-preserved : goal.loop-stage-preserved
loop-stage-preserved c =
    let job = c.args.job.now in
    let stage = c.loop-stage.stage in
    let all : c.loop-sender._sender ≡ tasks job stage = omega (arith, c.tasks-sender-end.ensures.is) in
    c.loop-sender.invariant ∙ ap (λ n. replicate n 0) (ap (λ n. sum_below stage (tasks job) + n) all ∙ ap (λ k. sum_below k (tasks job)) (let next : suc stage ≡ stage + 1 = omega arith in next))

pub loop-counter-preserved : goal.loop-counter-preserved
loop-counter-preserved c = one_more _ _ c.loop-counter._counter empty c.loop-counter.invariant (c.in_ok-push-4.ensures.ok ∙ ap (λ t. c.loop-counter.tables.items ++ t ∷ []) c.new.ensures)

pub returns : goal.returns
returns c =
    let job = c.args.job.now in
    let sources : c.loop-source._source ≡ tasks job 0 = omega (arith, c.tasks-source-end.ensures.is) in
    let stages : c.loop-stage.stage ≡ suc (last_edge job) = omega (arith, c.edges-stage-end.ensures) in
    let counters : c.loop-counter._counter ≡ tasks job (suc (last_edge job)) = omega (arith, c.tasks-counter-end.ensures.is, ap (tasks job) c.edges.ensures) in
    let offsets = c.loop-source.invariant.offsets ∙ ap (λ n. replicate n 0) sources in
    let ended = c.loop-source.invariant.ended ∙ ap (λ n. replicate n false) sources in
    let emitted = c.loop-stage.invariant ∙ ap (λ k. replicate (sum_below k (tasks job)) 0) stages in
    let tables = c.loop-counter.invariant ∙ ap (λ n. replicate n empty) counters in
    record { for_job = is_for_job job _ refl offsets ended emitted tables; beginning = is_beginning job _ refl offsets ended emitted tables }
