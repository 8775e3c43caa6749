use Rattle.std.proofs.Common.{◌≡◌, ◌*◌, ◌≤◌}
use Rattle.flow_defs.specs.Jobs.{edge_width, sum_below}
use Rattle.job_text.specs.Shapes.{job_of}
use Rattle.channel_state.proofs.places.channels.Given as goal

abbrev pub invariant-loop-edge : goal.invariant-loop-edge
invariant-loop-edge l = record {
  is : l.count ≡ sum_below l.edge (edge_width (job_of l.shape));
  few : l.count ≤ 64 * l.edge;
}
