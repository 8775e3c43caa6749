use Rattle.std.proofs.Common.{◌≡◌, ◌+◌, ◌*◌, suc, length}
use Rattle.flow_defs.specs.Jobs.{last_edge, tasks}
use Rattle.job_deploy.specs.Lending.{AreTakersAt, AreTurned, IsAggregatePlace}
use Rattle.job_deploy.specs.Placing.{AreFewer, HasFirst}
use Rattle.job_deploy.proofs.tasks.aggregate_row.Given as goal

abbrev pub invariant-loop-made : goal.invariant-loop-made
invariant-loop-made g l = record {
  takers : AreTakersAt l.job l.edges (last_edge l.job) l.takers;
  left : length l.takers.own.items + l._made ≡ tasks l.job (suc (last_edge l.job));
  stops : AreFewer (2 * l._made) l.fn.shared l.shared;
  theirs : HasFirst l.job (suc (last_edge l.job)) (length l.takers.own.items) l.shared;
  row_many : length l.row.items ≡ l._made;
  row : AreTurned (IsAggregatePlace l.job l.size l.fn.shared.every l.fn.shared.snapshots.now l.edges) (tasks l.job (suc (last_edge l.job))) l.row.items;
}
