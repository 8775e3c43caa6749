use Rattle.record_writer.specs.Writers.{IsOpen, IsSame, IsNextBarrier}
use Rattle.tasks_tests.proofs.record_writer_tests.write.Given as goal

abbrev pub invariant-loop-number : goal.invariant-loop-number
invariant-loop-number g l = record {
  is_open : IsOpen l.writer;
  same : IsSame l.fn.writer l.writer;
  next : IsNextBarrier l.writer l.number;
}
