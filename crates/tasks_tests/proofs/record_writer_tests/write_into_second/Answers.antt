use Rattle.std.proofs.Common.{[], ◌∷◌, refl, sym, subst, arith}
use Rattle.conn_parts.specs.Shares.{AreNew}
use Rattle.record_writer.specs.Writers.{AreOwnAt, HaveSizeAt}
use Rattle.tasks_tests.proofs.Samples.{second_own, second_new, second_size, two_tasks, one_way}
use Rattle.tasks_tests.proofs.record_writer_tests.write_into_second.Goals as goal

pub run-written-requires-clause-partition : goal.run-written-requires-clause-partition
run-written-requires-clause-partition g c =
    let job = c.args.job.now in let made = c.requires in
    let one = c.in_ok-one in let two = c.in_ok-two in let is = sym c.in_ok-subpartitions.ensures in
    let cells = one.one ∷ two.two ∷ [] in
    let ways = sym (one_way job _ made.edges made.tasks refl) in
    let tasks = two_tasks job _ made.edges made.tasks 0 (omega arith) in record {
      is_job = made.job.0;
      edge = omega (arith, made.job.1);
      index = omega (arith, tasks);
      passes = record {
        own =
            subst (λ n. AreOwnAt cells 1 2 n c.in_ok-subpartitions.subpartitions.items) ways
            (subst (AreOwnAt cells 1 2 1) is (second_own one.one two.two one._one_task two.two_task two.ensures.task));
        pool = made.pool;
      };
      new = subst AreNew is (second_new one.one two.two one._one_task two.two_task two.ensures.task);
      sizes = subst (λ n. HaveSizeAt cells 1 2 n 64) ways (second_size one.one two.two one._one_task two.two_task one.ensures.size two.ensures.size);
      pool_size = made.size;
      few = omega arith;
    }
