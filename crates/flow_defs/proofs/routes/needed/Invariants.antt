use Rattle.std.proofs.Common.{◌≡◌, ◌+◌, ◌*◌, ◌≤◌}
use Rattle.flow_defs.specs.Jobs.{tasks, edge_width, sum_below}
use Rattle.flow_defs.proofs.routes.needed.Given as goal

-- these are the segments of the edges before this one
abbrev pub invariant-loop-edge : goal.invariant-loop-edge
invariant-loop-edge l = record {
  segments : l.segments ≡ sum_below l.edge (λ e. 3 * edge_width l.job e + tasks l.job e);
  few : l.segments ≤ 200 * l.edge;
}
