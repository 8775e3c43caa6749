use Rattle.std.proofs.Common.{◌≡◌, ◌+◌, ◌*◌, suc, length, ap, subst, ◌∙◌, refl, arith}
use Rattle.std.proofs.lemmas.List.{length_push}
use Rattle.flow_defs.specs.Jobs.{last_edge, tasks}
use Rattle.job_workers.specs.declared.place.Place.TheVariants.{Todo}
use Rattle.job_workers.specs.declared.task.Task.TheVariants.{Aggregate}
use Rattle.job_deploy.specs.Deployed.{IsAggregateAt}
use Rattle.job_deploy.specs.Lending.{IsAggregatePlace}
use Rattle.job_deploy.specs.Placing.{AreFewer}
use Rattle.job_deploy.proofs.Orders.{turned_none, turned_push}
use Rattle.job_deploy.proofs.Rows.{aggregate_row_is}
use Rattle.job_deploy.proofs.Taking.{as_before, fewer_more, fewer_none, first_all, stages_left}
use Rattle.job_deploy.proofs.tasks.aggregate_row.Goals as goal

pub loop-made-init : goal.loop-made-init
loop-made-init g c = record {
  takers = c.requires.takers.0;
  left = (let l = c.requires.takers.1 in omega (arith, l));
  stops = fewer_none c.args.shared.now c.requires.stops.0;
  theirs = first_all c.args.job.now (suc (last_edge c.args.job.now)) (length c.args.takers.own.items) c.args.shared.now c.requires.takers.1 c.requires.theirs;
  row_many = ap length c.new-row.ensures;
  row = turned_none (IsAggregatePlace c.args.job.now c.args.size c.args.shared.now.every c.args.shared.now.snapshots.now c.args.edges.now) (tasks c.args.job.now (suc (last_edge c.args.job.now))) c.new-row.result.items c.new-row.ensures;
}

pub loop-made-preserved : goal.loop-made-preserved
loop-made-preserved g c =
    let before = c.loop-made.invariant in let job = c.args.job.now in let edges = c.args.edges.now in let n = tasks job (suc (last_edge job)) in
    let size = c.args.size in let first = c.args.shared.now in let every = first.every in let snapshots = first.snapshots.now in
    let took = c.in_ok-task.ensures.takers in
    record {
      takers = took.0;
      left = (let l = before.left in let f = took.1 in omega (arith, l, f));
      stops = fewer_more (2 * c.loop-made._made) 2 (2 * (c.loop-made._made + 1)) first c.loop-made.shared c.aggregate_task.new.shared (omega arith) before.stops c.in_ok-task.ensures.stops;
      theirs = c.in_ok-task.ensures.theirs;
      row_many = ap length c.in_ok-push.ensures.ok ∙ length_push c.loop-made.row.items (Todo (Aggregate c.in_ok-task.task)) ∙ ap (λ k. k + 1) before.row_many;
      row = turned_push (IsAggregatePlace job size every snapshots edges) n c.loop-made.row.items c.push.new.self.items (Todo (Aggregate c.in_ok-task.task)) c.in_ok-push.ensures.ok before.row
          (λ k sum. record {
            task = c.in_ok-task.task;
            is = refl;
            at = subst (λ b. IsAggregateAt job size every snapshots edges b c.in_ok-task.task)
                (let m = before.row_many in let l = before.left in let f = took.1 in let here : length c.aggregate_task.new.takers.own.items ≡ k = omega (arith, m, l, f, sum) in here)
                (as_before (λ every snapshots. IsAggregateAt job size every snapshots edges (length c.aggregate_task.new.takers.own.items) c.in_ok-task.task) first c.loop-made.shared before.stops.stayed c.in_ok-task.ensures.task);
          });
    }

pub returns-clause-row : goal.returns-clause-row
returns-clause-row g c =
    let i = c.loop-made.invariant in let job = c.args.job.now in
    let end : c.loop-made._made ≡ c.tasks-many.result = omega arith in
    let n : c.loop-made._made ≡ tasks job (suc (last_edge job)) = end ∙ c.tasks-many.ensures.is ∙ ap (tasks job) c.edges-stage.ensures in
    aggregate_row_is job c.args.size c.args.shared.now.every c.args.shared.now.snapshots.now c.args.edges.now c.loop-made.row.items c.turned.result.items c.turned.ensures (i.row_many ∙ n) i.row

pub returns-clause-stops : goal.returns-clause-stops
returns-clause-stops g c =
    let job = c.args.job.now in
    let end : c.loop-made._made ≡ c.tasks-many.result = omega arith in
    let n : c.loop-made._made ≡ tasks job (suc (last_edge job)) = end ∙ c.tasks-many.ensures.is ∙ ap (tasks job) c.edges-stage.ensures in
    subst (λ k. AreFewer (2 * k) c.args.shared.now c.loop-made.shared) n c.loop-made.invariant.stops

pub returns-clause-theirs : goal.returns-clause-theirs
returns-clause-theirs g c =
    let i = c.loop-made.invariant in let job = c.args.job.now in
    let end : c.loop-made._made ≡ c.tasks-many.result = omega arith in
    let n : c.loop-made._made ≡ tasks job (suc (last_edge job)) = end ∙ c.tasks-many.ensures.is ∙ ap (tasks job) c.edges-stage.ensures in
    let l = i.left in
    stages_left job (suc (last_edge job)) (length c.loop-made.takers.own.items) c.loop-made.shared (omega (arith, l, n)) i.theirs

pub aggregate_task-requires-clause-takers : goal.aggregate_task-requires-clause-takers
aggregate_task-requires-clause-takers g c =
    let i = c.loop-made.invariant in let job = c.args.job.now in
    let n : c.tasks-many.result ≡ tasks job (suc (last_edge job)) = c.tasks-many.ensures.is ∙ ap (tasks job) c.edges-stage.ensures in
    let low = c.loop-made-test.true in let l = i.left in
    (i.takers, omega (arith, l, n, low))

pub aggregate_task-requires-clause-stops : goal.aggregate_task-requires-clause-stops
aggregate_task-requires-clause-stops g c =
    let i = c.loop-made.invariant in let job = c.args.job.now in
    let n : c.tasks-many.result ≡ tasks job (suc (last_edge job)) = c.tasks-many.ensures.is ∙ ap (tasks job) c.edges-stage.ensures in
    let low = c.loop-made-test.true in let f = i.stops.fewer in let s = c.requires.stops.1 in
    (i.stops.are, omega (arith, f, s, n, low))
