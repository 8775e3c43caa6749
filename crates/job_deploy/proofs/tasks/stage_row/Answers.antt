use Rattle.std.proofs.Common.{◌≡◌, ◌+◌, ◌*◌, suc, length, sym, ap, subst, ◌∙◌, refl, arith}
use Rattle.std.proofs.lemmas.List.{length_push}
use Rattle.flow_defs.specs.Jobs.{tasks}
use Rattle.job_workers.specs.declared.place.Place.TheVariants.{Todo}
use Rattle.job_workers.specs.declared.task.Task.TheVariants.{Stage}
use Rattle.job_deploy.specs.Deployed.{IsStageAt}
use Rattle.job_deploy.specs.Lending.{IsStagePlace}
use Rattle.job_deploy.specs.Placing.{AreFewer}
use Rattle.job_deploy.proofs.Orders.{turned_none, turned_push}
use Rattle.job_deploy.proofs.Rows.{stage_row_is}
use Rattle.job_deploy.proofs.Taking.{as_before, fewer_more, fewer_none, first_all, stages_left}
use Rattle.job_deploy.proofs.tasks.stage_row.Goals as goal

pub loop-made-init : goal.loop-made-init
loop-made-init g c = record {
  takers = c.requires.takers.0;
  left = (let l = c.requires.takers.1 in omega (arith, l));
  senders = c.requires.senders.0;
  same = c.requires.senders.1 ∙ sym c.requires.takers.1;
  stops = fewer_none c.args.shared.now c.requires.stops.0;
  theirs = first_all c.args.job.now (suc c.args.e) (length c.args.takers.own.items) c.args.shared.now c.requires.takers.1 c.requires.theirs;
  row_many = ap length c.new-row.ensures;
  row = turned_none (IsStagePlace c.args.job.now c.args.size c.args.shared.now.every c.args.shared.now.snapshots.now c.args.edges.now c.args.e) (tasks c.args.job.now (suc c.args.e)) c.new-row.result.items c.new-row.ensures;
}

pub loop-made-preserved : goal.loop-made-preserved
loop-made-preserved g c =
    let before = c.loop-made.invariant in let job = c.args.job.now in let edges = c.args.edges.now in let e = c.args.e in
    let size = c.args.size in let first = c.args.shared.now in let every = first.every in let snapshots = first.snapshots.now in
    let took = c.in_ok-task.ensures.takers in let gave = c.in_ok-task.ensures.senders in
    record {
      takers = took.0;
      left = (let l = before.left in let f = took.1 in omega (arith, l, f));
      senders = gave.0;
      same = gave.1;
      stops = fewer_more (2 * c.loop-made._made) 2 (2 * (c.loop-made._made + 1)) first c.loop-made.shared c.stage_task.new.shared (omega arith) before.stops c.in_ok-task.ensures.stops;
      theirs = c.in_ok-task.ensures.theirs;
      row_many = ap length c.in_ok-push.ensures.ok ∙ length_push c.loop-made.row.items (Todo (Stage c.in_ok-task.task)) ∙ ap (λ n. n + 1) before.row_many;
      row = turned_push (IsStagePlace job size every snapshots edges e) (tasks job (suc e)) c.loop-made.row.items c.push.new.self.items (Todo (Stage c.in_ok-task.task)) c.in_ok-push.ensures.ok before.row
          (λ k sum. record {
            task = c.in_ok-task.task;
            is = refl;
            at = subst (λ b. IsStageAt job size every snapshots edges e b c.in_ok-task.task)
                (let m = before.row_many in let l = before.left in let f = took.1 in let here : length c.stage_task.new.takers.own.items ≡ k = omega (arith, m, l, f, sum) in here)
                (as_before (λ every snapshots. IsStageAt job size every snapshots edges e (length c.stage_task.new.takers.own.items) c.in_ok-task.task) first c.loop-made.shared before.stops.stayed c.in_ok-task.ensures.task);
          });
    }

pub returns-clause-row : goal.returns-clause-row
returns-clause-row g c =
    let i = c.loop-made.invariant in let job = c.args.job.now in
    let end : c.loop-made._made ≡ c.tasks-many.result = omega arith in
    let n : c.loop-made._made ≡ tasks job (suc c.args.e) = end ∙ c.tasks-many.ensures.is ∙ ap (tasks job) (let next : c.args.e + 1 ≡ suc c.args.e = omega arith in next) in
    stage_row_is job c.args.size c.args.shared.now.every c.args.shared.now.snapshots.now c.args.edges.now c.args.e c.loop-made.row.items c.turned.result.items c.turned.ensures (i.row_many ∙ n) i.row

pub returns-clause-stops : goal.returns-clause-stops
returns-clause-stops g c =
    let job = c.args.job.now in
    let end : c.loop-made._made ≡ c.tasks-many.result = omega arith in
    let n : c.loop-made._made ≡ tasks job (suc c.args.e) = end ∙ c.tasks-many.ensures.is ∙ ap (tasks job) (let next : c.args.e + 1 ≡ suc c.args.e = omega arith in next) in
    subst (λ k. AreFewer (2 * k) c.args.shared.now c.loop-made.shared) n c.loop-made.invariant.stops

pub returns-clause-theirs : goal.returns-clause-theirs
returns-clause-theirs g c =
    let i = c.loop-made.invariant in let job = c.args.job.now in
    let end : c.loop-made._made ≡ c.tasks-many.result = omega arith in
    let n : c.loop-made._made ≡ tasks job (suc c.args.e) = end ∙ c.tasks-many.ensures.is ∙ ap (tasks job) (let next : c.args.e + 1 ≡ suc c.args.e = omega arith in next) in
    let l = i.left in
    stages_left job (suc c.args.e) (length c.loop-made.takers.own.items) c.loop-made.shared (omega (arith, l, n)) i.theirs

pub stage_task-requires-clause-takers : goal.stage_task-requires-clause-takers
stage_task-requires-clause-takers g c =
    let i = c.loop-made.invariant in
    let n : c.tasks-many.result ≡ tasks c.args.job.now (suc c.args.e) = c.tasks-many.ensures.is ∙ ap (tasks c.args.job.now) (let next : c.args.e + 1 ≡ suc c.args.e = omega arith in next) in
    let low = c.loop-made-test.true in let l = i.left in
    (i.takers, omega (arith, l, n, low))

pub stage_task-requires-clause-stops : goal.stage_task-requires-clause-stops
stage_task-requires-clause-stops g c =
    let i = c.loop-made.invariant in
    let n : c.tasks-many.result ≡ tasks c.args.job.now (suc c.args.e) = c.tasks-many.ensures.is ∙ ap (tasks c.args.job.now) (let next : c.args.e + 1 ≡ suc c.args.e = omega arith in next) in
    let low = c.loop-made-test.true in let f = i.stops.fewer in let s = c.requires.stops.1 in
    (i.stops.are, omega (arith, f, s, n, low))
