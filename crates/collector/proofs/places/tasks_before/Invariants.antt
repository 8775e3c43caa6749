use Rattle.std.proofs.Common.{◌≡◌, ◌*◌, ◌≤◌}
use Rattle.flow_defs.specs.Jobs.{tasks, sum_below}
use Rattle.collector.proofs.places.tasks_before.Given as goal

-- these are the tasks of the stages so far
abbrev pub invariant-loop-i : goal.invariant-loop-i
invariant-loop-i l = record {
  is : l.before ≡ sum_below l.i (tasks l.job);
  few : l.before ≤ 8 * l.i;
}
