use Rattle.record_writer.proofs.Marking.{next_of_new}
use Rattle.tasks_tests.proofs.record_writer_tests.run.Goals as goal

pub write-written-requires-clause-next : goal.write-written-requires-clause-next
write-written-requires-clause-next g c = next_of_new c.in-Ok.writer c.in-Ok.ensures.new.0
