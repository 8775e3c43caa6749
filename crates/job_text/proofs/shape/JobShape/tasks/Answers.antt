use Rattle.std.proofs.Common.{◌≡◌, suc, Some, None, sym, ap, ◌∙◌, arith}
use Rattle.std.specs.Prelude.{slice_get}
use Rattle.std.specs.Option.{option_map_or}
use Rattle.flow_defs.specs.Jobs.{tasks}
use Rattle.job_text.specs.Shapes.{Shape, job_of}
use Rattle.job_text.specs.declared.shape.StageShape.{StageShape}
use Rattle.job_text.proofs.ShapeLemmas.{tasks_mapped}
use Rattle.job_text.proofs.shape.JobShape.tasks.Goals as goal

pub returns-in-Some-stage : goal.returns-in-Some-stage
returns-in-Some-stage c =
    let shape = c.args.self.now in
    let mapped = tasks_mapped shape.stages c.in-Some.before shape.aggregate in
    let at : suc c.in-Some.before ≡ c.args.stage = omega arith in
    let got : slice_get shape.stages c.in-Some.before ≡ Some c.in-Some-stage.stage = cc in
    sym (ap (λ o. option_map_or (λ (s : StageShape). s.tasks) o shape.aggregate) got) ∙ sym mapped ∙ ap (tasks (job_of shape)) at

pub returns-in-None : goal.returns-in-None
returns-in-None c =
    let shape = c.args.self.now in
    let mapped = tasks_mapped shape.stages c.in-Some.before shape.aggregate in
    let at : suc c.in-Some.before ≡ c.args.stage = omega arith in
    let got : slice_get shape.stages c.in-Some.before ≡ None = cc in
    ap (λ (s : Shape). s.aggregate) c.self.view_is ∙ sym (ap (λ o. option_map_or (λ (s : StageShape). s.tasks) o shape.aggregate) got) ∙ sym mapped ∙ ap (tasks (job_of shape)) at
