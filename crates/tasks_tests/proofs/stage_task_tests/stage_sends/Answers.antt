use Rattle.std.proofs.Common.{refl, sym, ap, subst, ◌∙◌}
use Rattle.flow_defs.specs.declared.job.AggKind.TheVariants.{Count}
use Rattle.flow_defs.specs.declared.job.StageKind.TheVariants.{Upper}
use Rattle.stage_fns.specs.Functions.{Functions, HasStage, HasAgg, with_stage, with_agg}
use Rattle.tasks_tests.proofs.stage_task_tests.stage_sends.Goals as goal

pub stage_by-requires-clause-functions : goal.stage_by-requires-clause-functions
stage_by-requires-clause-functions g c =
    let raises = c.in_ok-add_stage.ensures.ok ∙ ap (λ (k : Functions). with_stage k Upper) c.new-functions.ensures in
    let both = c.in_ok-add_agg.ensures.ok ∙ ap (λ (k : Functions). with_agg k Count) raises in
    (subst (λ (k : Functions). HasStage k Upper) (sym both) refl, subst (λ (k : Functions). HasAgg k Count) (sym both) refl)
