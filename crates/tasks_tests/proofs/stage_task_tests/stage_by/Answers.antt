use Rattle.std.proofs.Common.{length, List, sym, ap, ◌∙◌}
use Rattle.flow_defs.specs.declared.image.Snapshot.{Snapshot}
use Rattle.snapshot_channel.specs.declared.views.Opening.{Opening}
use Rattle.task_output.specs.Acking.{base_of}
use Rattle.tasks_tests.proofs.stage_task_tests.stage_by.Goals as goal

pub stage_pooled-requires-clause-passes : goal.stage_pooled-requires-clause-passes
stage_pooled-requires-clause-passes g c =
    let ends = c.in_ok-channel.ensures in
    let base = c.base_of.ensures ∙ ap (λ (o : Opening). base_of o.start) (sym ends.opening) in
    let none = ap (λ (l : List Snapshot). length l) (sym ends.stage.0.1) in
    (record { snapshots = ends.stage.0.0; last_image = c.in_ok-last_image.ensures; base_is = base; sent_is = none }, ends.stage.0.1, ends.stage.1)

pub stage_pooled-requires-clause-functions : goal.stage_pooled-requires-clause-functions
stage_pooled-requires-clause-functions g c = c.in_ok-job.ensures.ready _ c.requires.functions.0 c.requires.functions.1
