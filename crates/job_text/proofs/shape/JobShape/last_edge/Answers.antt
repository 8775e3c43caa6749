use Rattle.std.proofs.Common.{length, ap, arith, length-take}
use Rattle.job_text.specs.Shapes.{Shape}
use Rattle.job_text.proofs.ShapeLemmas.{edges_mapped}
use Rattle.job_text.proofs.shape.JobShape.last_edge.Goals as goal

pub returns : goal.returns
returns c =
    let mapped = edges_mapped c.args.self.now.stages in
    let view = ap (λ (s : Shape). length s.stages) c.self.view_is in
    let front = length-take c.self.inside.stage_count c.self.inside.stages in
    omega (arith, mapped, view, front, c.self.invariant.0, c.self.invariant.1)
