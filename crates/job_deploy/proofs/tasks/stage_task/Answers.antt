use Rattle.std.proofs.Common.{◌≡◌, ◌+◌, suc, length, refl, sym, ap, subst, arith}
use Rattle.record_writer.specs.Partitions.{IsPartitionOf}
use Rattle.job_deploy.specs.Deployed.{IsLentOf, IsPartitionAt}
use Rattle.job_deploy.specs.Placing.{HasFirst, IsOverCells}
use Rattle.job_deploy.proofs.Rows.{gate_at, partition_at, partition_of, senders_here, senders_there, stage_at, takers_here, takers_there}
use Rattle.job_deploy.proofs.Taking.{as_before, fewer_more, first_left, may_checkpoint, some_left, tasks_kept}
use Rattle.job_deploy.proofs.tasks.stage_task.Goals as goal

pub next-requires-clause-edge : goal.next-requires-clause-edge
next-requires-clause-edge c = c.requires.edges.each c.args.e c.item_at-before.result.now c.item_at-before.ensures

pub next-requires-clause-takers : goal.next-requires-clause-takers
next-requires-clause-takers c = takers_here c.args.job.now c.args.edges.now c.args.e c.args.e c.item_at-before.result.now refl c.item_at-before.ensures c.args.takers.now c.requires.takers.0

pub next-partition-requires-clause-edge : goal.next-partition-requires-clause-edge
next-partition-requires-clause-edge c = c.requires.edges.each (c.args.e + 1) c.item_at-behind.result.now c.item_at-behind.ensures

pub next-partition-requires-clause-senders : goal.next-partition-requires-clause-senders
next-partition-requires-clause-senders c =
    senders_here c.args.job.now c.args.edges.now (suc c.args.e) (c.args.e + 1) c.item_at-behind.result.now (omega arith) c.item_at-behind.ensures c.args.senders.now c.requires.senders.0

pub returns-clause-takers : goal.returns-clause-takers
returns-clause-takers c = (
  takers_there c.args.job.now c.args.edges.now c.args.e c.args.e c.item_at-before.result.now refl c.item_at-before.ensures c.next.new.self c.next.ensures.takers,
  c.next.ensures.fewer,
)

pub returns-clause-senders : goal.returns-clause-senders
returns-clause-senders c = (
  senders_there c.args.job.now c.args.edges.now (suc c.args.e) (c.args.e + 1) c.item_at-behind.result.now (omega arith) c.item_at-behind.ensures c.next-partition.new.self c.next-partition.ensures.senders,
  (let one = c.next.ensures.fewer in let two = c.next-partition.ensures.fewer in let same = c.requires.senders.1 in omega (arith, one, two, same)),
)

pub lend-world-requires-clause-snapshot_passes : goal.lend-world-requires-clause-snapshot_passes
lend-world-requires-clause-snapshot_passes c =
    let job = c.args.job.now in let n = length c.args.takers.now.own.items in let taken = c.next.ensures in
    (some_left job (suc c.args.e) n c.next.new.shared c.requires.takers.1 (tasks_kept job _ c.args.shared.now c.next.new.shared taken.stops.stayed taken.theirs c.requires.theirs)).0

pub lend-world-requires-clause-last_passes : goal.lend-world-requires-clause-last_passes
lend-world-requires-clause-last_passes c =
    let job = c.args.job.now in let n = length c.args.takers.now.own.items in let taken = c.next.ensures in
    (some_left job (suc c.args.e) n c.next.new.shared c.requires.takers.1 (tasks_kept job _ c.args.shared.now c.next.new.shared taken.stops.stayed taken.theirs c.requires.theirs)).1

pub returns-clause-stops : goal.returns-clause-stops
returns-clause-stops c = fewer_more 1 1 2 c.args.shared.now c.next.new.shared c.lend-world.new.self refl c.next.ensures.stops c.lend-world.ensures.stops

pub returns-clause-theirs : goal.returns-clause-theirs
returns-clause-theirs c =
    let job = c.args.job.now in let i = suc c.args.e in let b = length c.next.new.self.own.items in let taken = c.next.ensures in let between = c.next.new.shared in
    let has = tasks_kept job _ c.args.shared.now between taken.stops.stayed taken.theirs c.requires.theirs in
    first_left job i b between c.lend-world.new.self c.lend-world.result c.lend-world.ensures.stops.stayed c.lend-world.ensures.taken
    (subst (λ n. HasFirst job i n between) taken.fewer has)

pub returns-clause-task : goal.returns-clause-task
returns-clause-task c =
    let job = c.args.job.now in let edges = c.args.edges.now in let e = c.args.e in let size = c.args.size in let b = length c.next.new.self.own.items in
    let before = c.item_at-before.result.now in let behind = c.item_at-behind.result.now in
    let partition = c.next-partition.result in let world = c.lend-world.result in let told = c.lend-world.new.self.every in let given = c.lend-world.ensures.partition in let taken = c.next.ensures in
    let first = c.args.shared.now in let between = c.next.new.shared in let every = first.every in let snapshots = first.snapshots.now in
    let has = tasks_kept job _ first between taken.stops.stayed taken.theirs c.requires.theirs in
    let same : length c.next-partition.new.self.own.items ≡ b = (let one = c.next.ensures.fewer in let two = c.next-partition.ensures.fewer in let s = c.requires.senders.1 in omega (arith, one, two, s)) in
    stage_at job size every snapshots edges e b _ refl (ap length c.as_slice.ensures) c.requires.is_job.1
    (let m = c.requires.takers.0.are.many in let f = c.next.ensures.fewer in omega (arith, m, f))
    (gate_at job edges e e before refl c.item_at-before.ensures size every snapshots b _ c.in_ok-gate.ensures.cells)
    c.in_ok-gate.ensures.gate
    (subst (IsPartitionAt job size every snapshots edges (suc e) b) (sym given) (partition_at job edges (suc e) (e + 1) behind (omega arith) c.item_at-behind.ensures size every snapshots b partition (subst (λ a. IsOverCells job (e + 1) a size behind partition) same c.next-partition.ensures.cells)))
    (subst (IsPartitionOf job (suc e) b) (sym given) (partition_of job edges (suc e) (e + 1) behind (omega arith) c.item_at-behind.ensures b partition (subst (λ a. IsPartitionOf job (e + 1) a partition) same c.next-partition.ensures.partition)))
    (as_before (λ every snapshots. IsLentOf job size every snapshots edges told world) first between taken.stops.stayed (record { every_is = c.lend-world.ensures.stops.stayed.every_is; channel = c.lend-world.ensures.taken.channel }))
    (may_checkpoint job (suc e) b between c.lend-world.new.self world c.lend-world.ensures.stops.stayed c.lend-world.ensures.taken (subst (λ n. HasFirst job (suc e) n between) taken.fewer has))
