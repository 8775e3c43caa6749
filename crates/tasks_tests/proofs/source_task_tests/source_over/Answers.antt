use Rattle.std.proofs.Common.{◌≡◌, [], ◌∷◌, refl, sym, subst, arith}
use Rattle.flow_defs.specs.declared.job.Exchange.TheVariants.{Hash}
use Rattle.flow_defs.specs.Jobs.{exchange}
use Rattle.conn_parts.specs.Shares.{AreNew}
use Rattle.record_writer.specs.Writers.{AreOwnAt, HaveSizeAt}
use Rattle.tasks_tests.proofs.OneChannel.{one_own, one_new, one_size, one_way}
use Rattle.tasks_tests.proofs.source_task_tests.source_over.Goals as goal

pub source-cause-requires-clause-partition : goal.source-cause-requires-clause-partition
source-cause-requires-clause-partition g c =
    let job = c.args.job.now in let made = c.requires in
    let one = c.in_ok-cell in let is = sym c.in_ok-subpartitions.ensures in
    let cells = one.cell ∷ [] in
    let hash : exchange job 0 ≡ Hash = rw made.job.1 refl in
    let way = sym (one_way job 0 hash made.job.3) in record {
      is_job = made.job.0;
      edge = omega arith;
      index = omega (arith, made.job.2);
      passes = record {
        own =
            subst (λ n. AreOwnAt cells 0 1 n c.in_ok-subpartitions.subpartitions.items) way
            (subst (AreOwnAt cells 0 1 1) is (one_own one.cell one.task one.ensures.task.0 one.ensures.task.1));
        pool = made.pool.0;
      };
      new = subst AreNew is (one_new one.cell one.task one.ensures.task.2);
      sizes = subst (λ n. HaveSizeAt cells 0 1 n 64) way (one_size one.cell one.task one.ensures.size);
      pool_size = made.pool.1;
      few = omega arith;
    }

pub source-cause-requires-clause-lent : goal.source-cause-requires-clause-lent
source-cause-requires-clause-lent g c = record {
  interval = c.requires.interval;
  passes = c.requires.passes.0;
  fresh = c.requires.passes.1;
  task = c.requires.passes.2;
  opening = c.requires.opening;
  stop = c.in_ok-stop.ensures.first;
}
