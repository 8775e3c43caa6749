use Rattle.std.proofs.Common.{◌≡◌, ℕ, ◌+◌, ◌*◌, suc, ap, ◌∙◌, arith}
use Rattle.flow_defs.specs.Jobs.{last_edge, tasks, edge_width, sum_below}
use Rattle.flow_defs.proofs.routes.needed.Goals as goal

pub loop-edge-preserved : goal.loop-edge-preserved
loop-edge-preserved c =
    let job = c.args.job.now in let e = c.loop-edge.edge in
    let wide = c.width.ensures.is in let sends = c.tasks.ensures.is in
    let before = c.loop-edge.invariant in
    let sum : ℕ → ℕ = λ k. sum_below k (λ e. 3 * edge_width job e + tasks job e) in
    let next : suc e ≡ e + 1 = omega arith in
    record {
      segments = ap (λ n. n + (3 * c.width.result + c.tasks.result)) before.segments ∙ ap (λ n. sum e + (3 * n + c.tasks.result)) wide ∙ ap (λ n. sum e + (3 * edge_width job e + n)) sends ∙ ap sum next;
      few = (let w = c.width.ensures.few in let t = c.tasks.ensures.few in let f = before.few in omega (arith, w, t, f));
    }

pub returns : goal.returns
returns c =
    let job = c.args.job.now in
    let end = c.edges-edge-end.ensures in
    let all : c.loop-edge.edge ≡ suc (last_edge job) = omega arith in
    c.loop-edge.invariant.segments ∙ ap (λ k. sum_below k (λ e. 3 * edge_width job e + tasks job e)) all
