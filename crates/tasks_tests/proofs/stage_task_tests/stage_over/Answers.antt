use Rattle.std.proofs.Common.{[], ◌∷◌, sym, subst, arith}
use Rattle.conn_parts.specs.Shares.{AreNew}
use Rattle.record_writer.specs.Writers.{AreOwnAt, HaveSizeAt}
use Rattle.tasks_tests.proofs.OneChannel.{one_own, one_new, one_size, one_way}
use Rattle.tasks_tests.proofs.stage_task_tests.stage_over.Goals as goal

pub stage-end-requires-clause-partition : goal.stage-end-requires-clause-partition
stage-end-requires-clause-partition g c =
    let job = c.args.job.now in let made = c.requires in
    let one = c.in_ok-cell in let is = sym c.in_ok-subpartitions.ensures in
    let cells = one.cell ∷ [] in
    let way = sym (one_way job 1 made.edges.1 made.tasks.2) in record {
      is_job = made.job.0;
      edge = omega (arith, made.job.1);
      index = omega (arith, made.tasks.1);
      passes = record {
        own =
            subst (λ n. AreOwnAt cells 0 1 n c.in_ok-subpartitions.subpartitions.items) way
            (subst (AreOwnAt cells 0 1 1) is (one_own one.cell one.task one.ensures.task.0 one.ensures.task.1));
        pool = made.pool.0;
      };
      new = subst AreNew is (one_new one.cell one.task one.ensures.task.2);
      sizes = subst (λ n. HaveSizeAt cells 0 1 n 64) way (one_size one.cell one.task one.ensures.size);
      pool_size = made.pool.1;
      few = omega arith;
    }

pub stage-end-requires-clause-lent : goal.stage-end-requires-clause-lent
stage-end-requires-clause-lent g c = record {
  interval = c.requires.interval;
  passes = c.requires.passes.0;
  fresh = c.requires.passes.1;
  task = c.requires.passes.2;
  opening = c.requires.opening;
  stop = c.in_ok-stop.ensures.first;
}
