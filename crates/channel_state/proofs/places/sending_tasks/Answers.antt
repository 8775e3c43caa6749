use Rattle.std.proofs.Common.{◌≡◌, ◌≤◌, ◌+◌, suc, arith, ap, sym, ◌∙◌}
use Rattle.flow_defs.specs.Jobs.{tasks, sum_below, last_edge}
use Rattle.job_text.specs.Shapes.{job_of}
use Rattle.channel_state.proofs.FitsLemmas.{many_send}
use Rattle.channel_state.proofs.places.sending_tasks.Goals as goal

pub returns : goal.returns
returns c =
    let job = job_of c.args.shape.now in
    let is = c.last_edge-stage-end.ensures in
    let all : c.loop-stage.stage ≡ suc (last_edge job) = omega (arith, is) in
    c.loop-stage.invariant.is ∙ ap (λ k. sum_below k (tasks job)) all ∙ sym (many_send job)
