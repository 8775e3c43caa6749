use Rattle.std.proofs.Common.{◌≡◌, ◌+◌, false, replicate}
use Rattle.std.specs.FinMap.{empty}
use Rattle.flow_defs.specs.Jobs.{tasks, sum_below}
use Rattle.job_start.proofs.start.Start.new.Given as goal

-- so many sources stand there, and none has read a line
abbrev pub invariant-loop-source : goal.invariant-loop-source
invariant-loop-source l = record {
  offsets : l.offsets.items ≡ replicate l._source 0;
  ended : l.ended.items ≡ replicate l._source false;
}

-- the tasks of the stages before, and so many of this one
abbrev pub invariant-loop-stage : goal.invariant-loop-stage
invariant-loop-stage l = l.emitted.items ≡ replicate (sum_below l.stage (tasks l.job)) 0

abbrev pub invariant-loop-sender : goal.invariant-loop-sender
invariant-loop-sender l = l.emitted.items ≡ replicate (sum_below l.stage (tasks l.job) + l._sender) 0

abbrev pub invariant-loop-counter : goal.invariant-loop-counter
invariant-loop-counter l = l.tables.items ≡ replicate l._counter empty
