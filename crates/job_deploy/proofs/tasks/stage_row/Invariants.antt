use Rattle.std.proofs.Common.{◌≡◌, ◌+◌, ◌*◌, suc, length}
use Rattle.flow_defs.specs.Jobs.{tasks}
use Rattle.job_deploy.specs.Lending.{AreSendersAt, AreTakersAt, AreTurned, IsStagePlace}
use Rattle.job_deploy.specs.Placing.{AreFewer, HasFirst}
use Rattle.job_deploy.proofs.tasks.stage_row.Given as goal

abbrev pub invariant-loop-made : goal.invariant-loop-made
invariant-loop-made g l = record {
  takers : AreTakersAt l.job l.edges l.e l.takers;
  left : length l.takers.own.items + l._made ≡ tasks l.job (suc l.e);
  senders : AreSendersAt l.job l.edges (suc l.e) l.senders;
  same : length l.senders.own.items ≡ length l.takers.own.items;
  stops : AreFewer (2 * l._made) l.fn.shared l.shared;
  theirs : HasFirst l.job (suc l.e) (length l.takers.own.items) l.shared;
  row_many : length l.row.items ≡ l._made;
  row : AreTurned (IsStagePlace l.job l.size l.fn.shared.every l.fn.shared.snapshots.now l.edges l.e) (tasks l.job (suc l.e)) l.row.items;
}
