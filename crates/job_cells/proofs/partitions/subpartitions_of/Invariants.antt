use Rattle.job_cells.specs.Ends.{AreSent}
use Rattle.job_cells.proofs.partitions.subpartitions_of.Given as goal

abbrev pub invariant-loop-way : goal.invariant-loop-way
invariant-loop-way l = AreSent l.span.senders l._way 0 l.size l.ends

abbrev pub invariant-loop-task : goal.invariant-loop-task
invariant-loop-task l = AreSent l.span.senders l._way l.task l.size l.ends
