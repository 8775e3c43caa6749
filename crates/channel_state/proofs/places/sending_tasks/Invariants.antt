use Rattle.std.proofs.Common.{◌≡◌, ◌*◌, ◌≤◌}
use Rattle.flow_defs.specs.Jobs.{tasks, sum_below}
use Rattle.job_text.specs.Shapes.{job_of}
use Rattle.channel_state.proofs.places.sending_tasks.Given as goal

abbrev pub invariant-loop-stage : goal.invariant-loop-stage
invariant-loop-stage l = record {
  is : l.count ≡ sum_below l.stage (tasks (job_of l.shape));
  few : l.count ≤ 8 * l.stage;
}
