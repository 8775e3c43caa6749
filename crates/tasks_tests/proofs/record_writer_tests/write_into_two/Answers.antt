use Rattle.std.proofs.Common.{[], ◌∷◌, refl, sym, subst, arith}
use Rattle.conn_parts.specs.Shares.{AreNew}
use Rattle.record_writer.specs.Writers.{AreOwnAt, HaveSizeAt}
use Rattle.tasks_tests.proofs.Samples.{both_own, both_new, both_sizes, two_tasks, two_ways}
use Rattle.tasks_tests.proofs.record_writer_tests.write_into_two.Goals as goal

pub run-written-requires-clause-partition : goal.run-written-requires-clause-partition
run-written-requires-clause-partition g c =
    let job = c.args.job.now in let made = c.requires in
    let one = c.in_ok-one in let two = c.in_ok-two in let is = sym c.in_ok-subpartitions.ensures in
    let cells = one.one ∷ two.two ∷ [] in
    let ways = sym (two_ways job _ made.edges made.tasks refl c.args.case.now.edge made.edge) in
    let tasks = two_tasks job _ made.edges made.tasks c.args.case.now.edge made.edge in record {
      is_job = made.job.0;
      edge = omega (arith, made.job.1, made.edge);
      index = omega (arith, tasks);
      passes = record {
        own =
            subst (λ n. AreOwnAt cells 0 1 n c.in_ok-subpartitions.subpartitions.items) ways
            (subst (AreOwnAt cells 0 1 2) is (both_own one.one two.two one.one_task two.two_task one.ensures.task two.ensures.task));
        pool = made.pool;
      };
      new = subst AreNew is (both_new one.one two.two one.one_task two.two_task one.ensures.task two.ensures.task);
      sizes = subst (λ n. HaveSizeAt cells 0 1 n 64) ways (both_sizes one.one two.two one.one_task two.two_task one.ensures.size two.ensures.size);
      pool_size = made.size;
      few = omega arith;
    }
