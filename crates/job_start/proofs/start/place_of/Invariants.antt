use Rattle.std.proofs.Common.{◌≡◌, ◌≤◌, ◌+◌, ◌*◌}
use Rattle.flow_defs.specs.Jobs.{tasks, sum_below}
use Rattle.job_start.proofs.start.place_of.Given as goal

-- these are the tasks of the stages so far, and those before it in its own
abbrev pub invariant-loop-before : goal.invariant-loop-before
invariant-loop-before l = record {
  is : l.place ≡ sum_below l.before (tasks l.job) + l.fn.index;
  few : l.place ≤ 8 * l.before + 8;
}
