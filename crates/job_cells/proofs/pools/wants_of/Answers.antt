use Rattle.std.proofs.Common.{◌≡◌, suc, ◌+◌, ◌++◌, ap, ◌∙◌, arith}
use Rattle.plain_machine.specs.Worth.{concat_below}
use Rattle.flow_defs.specs.Jobs.{last_edge}
use Rattle.job_cells.specs.Grants.{wants_on}
use Rattle.job_cells.specs.Spans.{wants_at}
use Rattle.job_cells.proofs.pools.wants_of.Goals as goal

pub loop-edge-preserved : goal.loop-edge-preserved
loop-edge-preserved c =
    let job = c.args.job.now in let e = c.loop-edge.edge in
    let next : suc e ≡ e + 1 = omega arith in
    c.in_ok-add_wants.ensures ∙ ap (λ ws. ws ++ wants_at c.span_of.result) c.loop-edge.invariant ∙ ap (λ span. concat_below e (wants_on job) ++ wants_at span) c.span_of.ensures.is
    ∙ ap (λ k. concat_below k (wants_on job)) next

pub returns : goal.returns
returns c =
    let job = c.args.job.now in
    let end = c.edges-edge-end.ensures in
    let all : c.loop-edge.edge ≡ suc (last_edge job) = omega arith in
    c.loop-edge.invariant ∙ ap (λ k. concat_below k (wants_on job)) all
