use Rattle.std.proofs.Common.{sym, ap, subst}
use Rattle.flow_defs.specs.declared.image.Snapshot.{Snapshot}
use Rattle.snapshot_channel.specs.Passes.{received_by}
use Rattle.job_ends.specs.Ended.{AreReceived}
use Rattle.std.specs.Prelude.{List}
use Rattle.job_run.proofs.EndLaws.{settled_again, still_acknowledged, were_received}
use Rattle.job_run.proofs.ending.settle_all.Goals as goal

pub settle_snapshots-requires-clause-passes : goal.settle_snapshots-requires-clause-passes
settle_snapshots-requires-clause-passes g c =
    still_acknowledged c.settle_edges.ensures.rest c.settle_edges.ensures.snapshots c.requires.acknowledged

pub returns-clause-settled : goal.returns-clause-settled
returns-clause-settled g c = λ tell end is. record {
  edges = c.settle_edges.ensures.carry tell;
  received =
      subst (λ (l : List Snapshot). AreReceived c.args.job.now l c.args.rows.now) (sym (ap received_by is))
      (were_received c.settle_edges.ensures.rest c.settle_edges.ensures.snapshots c.requires.acknowledged (received_by c.args.collecting) c.settle_snapshots.ensures.received);
}

pub returns-clause-rest : goal.returns-clause-rest
returns-clause-rest g c = settled_again c.settle_edges.ensures.rest c.settle_snapshots.ensures.rest
