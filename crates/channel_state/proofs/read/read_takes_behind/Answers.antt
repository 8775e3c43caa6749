use Rattle.std.proofs.Common.{◌≡◌, ◌+◌, ◌<◌, suc, ap, ◌∙◌, arith}
use Rattle.flow_defs.specs.Jobs.{tasks}
use Rattle.job_text.specs.Shapes.{job_of}
use Rattle.channel_state.proofs.BuildLemmas.{next_takes, edge_done}
use Rattle.channel_state.proofs.read.read_takes_behind.Goals as goal

pub loop-to-preserved : goal.loop-to-preserved
loop-to-preserved c = λ start read.
    let job = job_of c.args.shape.now in
    let e = c.args.edge in
    let so_far = c.loop-to.invariant start read in
    let many : c.tasks-many.result ≡ tasks job (suc e) = c.tasks-many.ensures ∙ ap (tasks job) (let z : e + 1 ≡ suc e = omega arith in z) in
    let here : c.loop-to.to < tasks job (suc e) = omega (arith, many) in
    next_takes job e c.loop-to.to start c.loop-to.cursor.rest.now c.read_takes_of.new.cursor.rest.now c.loop-to.takes.items c.push.new.self.items c.in_ok-runs.runs here so_far (c.in_ok-runs.ensures so_far.read.spelled.rest_fits) c.in_ok-push.ensures.ok

pub returns : goal.returns
returns c = λ start read.
    let job = job_of c.args.shape.now in
    let e = c.args.edge in
    let many : c.tasks-many.result ≡ tasks job (suc e) = c.tasks-many.ensures ∙ ap (tasks job) (let z : e + 1 ≡ suc e = omega arith in z) in
    edge_done job e c.loop-to.to start c.loop-to.cursor.rest.now c.loop-to.takes.items (omega (arith, many)) (c.loop-to.invariant start read)
