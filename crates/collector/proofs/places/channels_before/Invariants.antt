use Rattle.std.proofs.Common.{◌≡◌, ◌*◌, ◌≤◌}
use Rattle.flow_defs.specs.Jobs.{edge_width, sum_below}
use Rattle.collector.proofs.places.channels_before.Given as goal

-- these are the channels of the edges so far
abbrev pub invariant-loop-i : goal.invariant-loop-i
invariant-loop-i l = record {
  is : l.before ≡ sum_below l.i (edge_width l.job);
  few : l.before ≤ 64 * l.i;
}
