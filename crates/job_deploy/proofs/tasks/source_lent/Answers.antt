use Rattle.std.proofs.Common.{suc, length, refl, sym, ap, subst}
use Rattle.job_deploy.proofs.Rows.{partition_at, partition_of, senders_here, senders_there}
use Rattle.job_deploy.proofs.Taking.{first_left, may_checkpoint, some_left, tasks_same}
use Rattle.record_writer.specs.Partitions.{IsPartitionOf}
use Rattle.job_deploy.specs.Deployed.{IsPartitionAt}
use Rattle.job_deploy.specs.Placing.{first_tasks}
use Rattle.job_deploy.proofs.tasks.source_lent.Goals as goal

pub next-partition-requires-clause-edge : goal.next-partition-requires-clause-edge
next-partition-requires-clause-edge c = c.requires.edges.each 0 c.item_at-edge.result.now c.item_at-edge.ensures

pub next-partition-requires-clause-senders : goal.next-partition-requires-clause-senders
next-partition-requires-clause-senders c = senders_here c.args.job.now c.args.edges.now 0 0 c.item_at-edge.result.now refl c.item_at-edge.ensures c.args.senders.now c.requires.senders.0

pub lend-world-requires-clause-snapshot_passes : goal.lend-world-requires-clause-snapshot_passes
lend-world-requires-clause-snapshot_passes c = (some_left c.args.job.now 0 (length c.args.senders.now.own.items) c.args.shared.now c.requires.senders.1 c.requires.theirs).0

pub lend-world-requires-clause-last_passes : goal.lend-world-requires-clause-last_passes
lend-world-requires-clause-last_passes c = (some_left c.args.job.now 0 (length c.args.senders.now.own.items) c.args.shared.now c.requires.senders.1 c.requires.theirs).1

pub returns-clause-senders : goal.returns-clause-senders
returns-clause-senders c = senders_there c.args.job.now c.args.edges.now 0 0 c.item_at-edge.result.now refl c.item_at-edge.ensures c.next-partition.new.self c.next-partition.ensures.senders

pub returns-clause-theirs : goal.returns-clause-theirs
returns-clause-theirs c =
    let job = c.args.job.now in let a = length c.next-partition.new.self.own.items in let before = c.args.shared.now in let after = c.lend-world.new.self in
    first_left job 0 a before after c.lend-world.result c.lend-world.ensures.stops.stayed c.lend-world.ensures.taken
    (tasks_same job (first_tasks job 0 (length c.args.senders.now.own.items)) (first_tasks job 0 (suc a)) before (ap (first_tasks job 0) c.next-partition.ensures.fewer) c.requires.theirs)

pub returns-clause-lent : goal.returns-clause-lent
returns-clause-lent c =
    let job = c.args.job.now in let edges = c.args.edges.now in let before = c.args.shared.now in let after = c.lend-world.new.self in
    let a = length c.next-partition.new.self.own.items in let edge = c.item_at-edge.result.now in let partition = c.next-partition.result in
    let given = c.lend-world.ensures.partition in
    record {
      at = subst (IsPartitionAt job c.args.size before.every before.snapshots.now edges 0 a) (sym given) (partition_at job edges 0 0 edge refl c.item_at-edge.ensures c.args.size before.every before.snapshots.now a partition c.next-partition.ensures.cells);
      partition = subst (IsPartitionOf job 0 a) (sym given) (partition_of job edges 0 0 edge refl c.item_at-edge.ensures a partition c.next-partition.ensures.partition);
      lent = record { every_is = c.lend-world.ensures.stops.stayed.every_is; channel = c.lend-world.ensures.taken.channel };
      may = may_checkpoint job 0 a before after c.lend-world.result c.lend-world.ensures.stops.stayed c.lend-world.ensures.taken
          (tasks_same job (first_tasks job 0 (length c.args.senders.now.own.items)) (first_tasks job 0 (suc a)) before (ap (first_tasks job 0) c.next-partition.ensures.fewer) c.requires.theirs);
    }
