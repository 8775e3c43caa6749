use Rattle.std.proofs.Common.{ℕ}
use Rattle.record_writer.specs.Writers.{IsOpen, IsSame, IsNextBarrier}
use Rattle.tasks_tests.proofs.record_writer_tests.emit_all.Given as goal

abbrev pub invariant-loop-line : goal.invariant-loop-line
invariant-loop-line g l = record {
  is_open : IsOpen l.writer;
  same : IsSame l.initial.writer l.writer;
  next : (k : ℕ) → IsNextBarrier l.initial.writer k → IsNextBarrier l.writer k;
}
