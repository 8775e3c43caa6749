use Rattle.std.proofs.Common.{◌≡◌, ◌+◌, length}
use Rattle.flow_defs.specs.Jobs.{tasks}
use Rattle.job_deploy.specs.Lending.{AreSendersAt, AreTurned, IsLentAt}
use Rattle.job_deploy.specs.Placing.{AreFewer, HasFirst}
use Rattle.job_deploy.proofs.tasks.sources_lent.Given as goal

abbrev pub invariant-loop-made : goal.invariant-loop-made
invariant-loop-made l = record {
  senders : AreSendersAt l.job l.edges 0 l.senders;
  left : length l.senders.own.items + l._made ≡ tasks l.job 0;
  stops : AreFewer l._made l.fn.shared l.shared;
  theirs : HasFirst l.job 0 (length l.senders.own.items) l.shared;
  lents_many : length l.lents.items ≡ l._made;
  lents : AreTurned (IsLentAt l.job l.size l.fn.shared.every l.fn.shared.snapshots.now l.edges) (tasks l.job 0) l.lents.items;
}
