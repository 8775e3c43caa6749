use Rattle.std.proofs.Common.{length, List, sym, ap, ◌∙◌}
use Rattle.flow_defs.specs.declared.image.Snapshot.{Snapshot}
use Rattle.snapshot_channel.specs.declared.views.Opening.{Opening}
use Rattle.task_output.specs.Acking.{base_of}
use Rattle.tasks_tests.proofs.source_task_tests.source_sends.Goals as goal

pub source_pooled-requires-clause-passes : goal.source_pooled-requires-clause-passes
source_pooled-requires-clause-passes g c =
    let ends = c.in_ok-channel.ensures in
    let base = c.base_of.ensures ∙ ap (λ (o : Opening). base_of o.start) (sym ends.opening) in
    let none = ap (λ (l : List Snapshot). length l) (sym ends.source.0.1) in
    (record { snapshots = ends.source.0.0; last_image = c.in_ok-last_image.ensures; base_is = base; sent_is = none }, ends.source.0.1, ends.source.1)
