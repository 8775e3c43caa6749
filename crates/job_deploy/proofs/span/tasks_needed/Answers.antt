use Rattle.std.proofs.Common.{◌≡◌, ◌+◌, suc, length, sym, ap, ◌∙◌, arith}
use Rattle.flow_defs.specs.Jobs.{last_edge}
use Rattle.snapshot_channel.specs.Snapshots.{tasks_below}
use Rattle.job_deploy.proofs.Taking.{length_below}
use Rattle.job_deploy.proofs.span.tasks_needed.Goals as goal

pub loop-stage-preserved : goal.loop-stage-preserved
loop-stage-preserved c =
    let job = c.args.job.now in let stage = c.loop-stage.stage in let before = c.loop-stage.invariant in
    let more = length_below job stage in let is = before.is in let count = c.tasks-needed.ensures.is in
    let next : stage + 1 ≡ suc stage = omega arith in
    record {
      is = (let e : c.loop-stage.needed + c.tasks-needed.result ≡ length (tasks_below job (suc stage)) = omega (arith, more, is, count) in e) ∙ ap (λ n. length (tasks_below job n)) (sym next);
      few = (let f = before.few in let g = c.tasks-needed.ensures.few in omega (arith, f, g));
    }

pub returns-clause-is : goal.returns-clause-is
returns-clause-is c =
    let job = c.args.job.now in let edges = c.edges-stage-end.ensures in let within = c.loop-stage.auto.stage-end in let over = c.loop-stage-test.false in
    let all : c.loop-stage.stage ≡ suc (suc (last_edge job)) = omega (arith, edges, within, over) in
    c.loop-stage.invariant.is ∙ ap (λ n. length (tasks_below job n)) all
