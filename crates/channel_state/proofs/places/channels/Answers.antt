use Rattle.std.proofs.Common.{◌≡◌, ◌≤◌, ◌+◌, suc, arith, ap, sym, ◌∙◌}
use Rattle.flow_defs.specs.Jobs.{edge_width, sum_below, last_edge}
use Rattle.plain_machine.proofs.PlaceLemmas.{channels_fill}
use Rattle.job_text.specs.Shapes.{job_of}
use Rattle.channel_state.proofs.places.channels.Goals as goal

pub loop-edge-preserved : goal.loop-edge-preserved
loop-edge-preserved c =
    let i = c.loop-edge.edge in
    let job = job_of c.args.shape.now in
    record {
      is = ap (λ n. n + c.edge_width-count.result) c.loop-edge.invariant.is ∙ ap (λ n. sum_below i (edge_width job) + n) c.edge_width-count.ensures.is ∙ ap (λ k. sum_below k (edge_width job)) (let next : suc i ≡ i + 1 = omega arith in next);
      few = omega (arith, c.edge_width-count.ensures.few, c.loop-edge.invariant.few);
    }

pub returns : goal.returns
returns c =
    let job = job_of c.args.shape.now in
    let is = c.last_edge-edge-end.ensures in
    let all : c.loop-edge.edge ≡ suc (last_edge job) = omega (arith, is) in
    c.loop-edge.invariant.is ∙ ap (λ k. sum_below k (edge_width job)) all ∙ sym (channels_fill job c.requires)
