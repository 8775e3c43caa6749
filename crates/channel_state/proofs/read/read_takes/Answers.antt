use Rattle.std.proofs.Common.{◌≡◌, ◌+◌, suc, subst, sym, arith}
use Rattle.flow_defs.specs.Jobs.{last_edge}
use Rattle.job_text.specs.Shapes.{job_of}
use Rattle.channel_state.specs.Building.{AreTakes}
use Rattle.channel_state.proofs.BuildLemmas.{first_takes}
use Rattle.channel_state.proofs.read.read_takes.Goals as goal

pub loop-edge-init : goal.loop-edge-init
loop-edge-init c = λ fits. first_takes (job_of c.args.shape.now) c.args.cursor.now.rest.now c.new-takes.result.items c.new-takes.ensures fits

pub loop-edge-preserved : goal.loop-edge-preserved
loop-edge-preserved c = λ fits.
    let job = job_of c.args.shape.now in
    let e = c.loop-edge.edge in
    subst (λ k. AreTakes job k 0 c.args.cursor.now.rest.now c.read_takes_behind.new.cursor.rest.now c.read_takes_behind.new.takes.items) (let z : suc e ≡ e + 1 = omega arith in z)
    (c.in_ok-read_takes_behind.ensures c.args.cursor.now.rest.now (c.loop-edge.invariant fits))

pub returns : goal.returns
returns c = λ fits.
    let job = job_of c.args.shape.now in
    let is = c.last_edge-edges.ensures in
    let all : c.loop-edge.edge ≡ suc (last_edge job) = omega (arith, is) in
    subst (λ k. AreTakes job k 0 c.args.cursor.now.rest.now c.loop-edge.cursor.rest.now c.loop-edge.takes.items) all (c.loop-edge.invariant fits)
