use Rattle.std.proofs.Common.{◌≡◌, suc, length, refl, ap, subst, arith}
use Rattle.flow_defs.specs.Jobs.{last_edge}
use Rattle.job_workers.specs.Tasks.{IsGateBehind}
use Rattle.job_deploy.specs.Deployed.{IsLentOf}
use Rattle.job_deploy.specs.Placing.{HasFirst}
use Rattle.job_deploy.proofs.Rows.{aggregate_at, gate_at, takers_here, takers_there}
use Rattle.job_deploy.proofs.Taking.{as_before, fewer_more, first_left, may_checkpoint, may_start, some_left, tasks_kept}
use Rattle.job_deploy.proofs.tasks.aggregate_task.Goals as goal

pub next-requires-clause-edge : goal.next-requires-clause-edge
next-requires-clause-edge c = c.requires.edges.each (length c.as_slice-last.result.now) c.item_at-edge.result.now c.item_at-edge.ensures

pub next-requires-clause-takers : goal.next-requires-clause-takers
next-requires-clause-takers c =
    takers_here c.args.job.now c.args.edges.now (last_edge c.args.job.now) (length c.as_slice-last.result.now) c.item_at-edge.result.now (ap length c.as_slice-last.ensures) c.item_at-edge.ensures c.args.takers.now c.requires.takers.0

pub returns-clause-takers : goal.returns-clause-takers
returns-clause-takers c = (
  takers_there c.args.job.now c.args.edges.now (last_edge c.args.job.now) (length c.as_slice-last.result.now) c.item_at-edge.result.now (ap length c.as_slice-last.ensures) c.item_at-edge.ensures c.next.new.self c.next.ensures.takers,
  c.next.ensures.fewer,
)

pub lend-world-requires-clause-snapshot_passes : goal.lend-world-requires-clause-snapshot_passes
lend-world-requires-clause-snapshot_passes c =
    let job = c.args.job.now in let n = length c.args.takers.now.own.items in let taken = c.next.ensures in
    (some_left job (suc (last_edge job)) n c.next.new.shared c.requires.takers.1 (tasks_kept job _ c.args.shared.now c.next.new.shared taken.stops.stayed taken.theirs c.requires.theirs)).0

pub lend-world-requires-clause-last_passes : goal.lend-world-requires-clause-last_passes
lend-world-requires-clause-last_passes c =
    let job = c.args.job.now in let n = length c.args.takers.now.own.items in let taken = c.next.ensures in
    (some_left job (suc (last_edge job)) n c.next.new.shared c.requires.takers.1 (tasks_kept job _ c.args.shared.now c.next.new.shared taken.stops.stayed taken.theirs c.requires.theirs)).1

pub returns-clause-stops : goal.returns-clause-stops
returns-clause-stops c = fewer_more 1 1 2 c.args.shared.now c.next.new.shared c.lend-world.new.self refl c.next.ensures.stops c.lend-world.ensures.stops

pub returns-clause-theirs : goal.returns-clause-theirs
returns-clause-theirs c =
    let job = c.args.job.now in let i = suc (last_edge job) in let b = length c.next.new.self.own.items in let taken = c.next.ensures in let between = c.next.new.shared in
    let has = tasks_kept job _ c.args.shared.now between taken.stops.stayed taken.theirs c.requires.theirs in
    first_left job i b between c.lend-world.new.self c.lend-world.result c.lend-world.ensures.stops.stayed c.lend-world.ensures.taken
    (subst (λ n. HasFirst job i n between) taken.fewer has)

pub returns-clause-task : goal.returns-clause-task
returns-clause-task c =
    let job = c.args.job.now in let edges = c.args.edges.now in let size = c.args.size in let b = length c.next.new.self.own.items in
    let world = c.lend-world.result in let told = c.lend-world.new.self.every in let taken = c.next.ensures in
    let first = c.args.shared.now in let between = c.next.new.shared in let every = first.every in let snapshots = first.snapshots.now in
    let has = tasks_kept job _ first between taken.stops.stayed taken.theirs c.requires.theirs in
    let last : length c.as_slice-last.result.now ≡ last_edge job = ap length c.as_slice-last.ensures in
    aggregate_at job size every snapshots edges b _ (ap length c.as_slice.ensures)
    (let m = c.requires.takers.0.are.many in let f = c.next.ensures.fewer in omega (arith, m, f))
    (gate_at job edges (last_edge job) (length c.as_slice-last.result.now) c.item_at-edge.result.now last c.item_at-edge.ensures size every snapshots b _ c.in_ok-gate.ensures.cells)
    (subst (λ e. IsGateBehind job e c.in_ok-gate.gate) last c.in_ok-gate.ensures.gate)
    (as_before (λ every snapshots. IsLentOf job size every snapshots edges told world) first between taken.stops.stayed (record { every_is = c.lend-world.ensures.stops.stayed.every_is; channel = c.lend-world.ensures.taken.channel }))
    (may_start job (suc (last_edge job)) b between c.lend-world.new.self world c.lend-world.ensures.stops.stayed c.lend-world.ensures.taken
    (subst (λ n. HasFirst job (suc (last_edge job)) n between) taken.fewer has))
    (may_checkpoint job (suc (last_edge job)) b between c.lend-world.new.self world c.lend-world.ensures.stops.stayed c.lend-world.ensures.taken
    (subst (λ n. HasFirst job (suc (last_edge job)) n between) taken.fewer has))

pub overflow_cast-result : goal.overflow_cast-result
overflow_cast-result c =
    let many = c.requires.takers.0.are.many in let fewer = c.next.ensures.fewer in
    let few = (c.requires.is_job.counts (suc (last_edge c.args.job.now)) (omega arith)).1 in
    let same = ap length c.as_slice.ensures in omega (arith, many, fewer, few, same)
