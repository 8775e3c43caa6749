use Rattle.record_writer.proofs.Marking.{next_after_mark}
use Rattle.tasks_tests.proofs.Samples.{same_writer}
use Rattle.tasks_tests.proofs.record_writer_tests.write.Goals as goal

pub loop-number-init : goal.loop-number-init
loop-number-init g c = record {
  is_open = c.in_ok-emit_all.ensures.is_open;
  same = c.emit_all.ensures.same;
  next = c.emit_all.ensures.next 1 c.requires.next;
}

pub loop-number-preserved : goal.loop-number-preserved
loop-number-preserved g c = record {
  is_open = c.in_ok-emit_all-2.ensures.is_open;
  same = same_writer _ _ _ (same_writer _ _ _ c.loop-number.invariant.same c.mark.ensures.same) c.emit_all-in-loop-number.ensures.same;
  next = c.emit_all-in-loop-number.ensures.next _ (next_after_mark c.loop-number.writer c.mark.new.self c.loop-number.number c.mark.ensures.same c.loop-number.invariant.next c.in_ok-mark.ensures.marked.1);
}
