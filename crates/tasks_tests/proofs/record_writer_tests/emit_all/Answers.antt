use Rattle.std.proofs.Common.{rules}
use Rattle.record_writer.proofs.Marking.{next_after_data}
use Rattle.tasks_tests.proofs.record_writer_tests.emit_all.Goals as goal

pub returns-in-Err-clause-next : goal.returns-in-Err-clause-next
returns-in-Err-clause-next g c = λ k next. next_after_data c.loop-line.writer c.emit.new.self k c.emit.ensures.same (c.loop-line.invariant.next k next) c.emit.ensures.entries

pub loop-line-preserved : goal.loop-line-preserved
loop-line-preserved g c = record {
  is_open = c.in-Ok.ensures.emitted.0;
  same = search rules;
  next = λ k next. next_after_data c.loop-line.writer c.emit.new.self k c.emit.ensures.same (c.loop-line.invariant.next k next) c.emit.ensures.entries;
}
