use Rattle.std.proofs.Common.{◌≡◌, ◌+◌, ◌*◌, ◌≤◌, suc}
use Rattle.flow_defs.specs.Jobs.{tasks, sum_below}
use Rattle.job_deploy.proofs.stops.stops_needed.Given as goal

abbrev pub invariant-loop-e : goal.invariant-loop-e
invariant-loop-e l = record {
  is : l.needed ≡ tasks l.job 0 + sum_below l.e (λ e. 2 * tasks l.job (suc e) + 4);
  few : l.needed ≤ 8 + 20 * l.e;
}
