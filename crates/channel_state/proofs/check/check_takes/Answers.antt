use Rattle.std.proofs.Common.{◌+◌, suc, ◌≡◌, ℕ, arith, ap, sym, ◌∙◌, subst, Err}
use Rattle.std.proofs.lemmas.Result.{err_from_is_err_and}
use Rattle.flow_defs.specs.Jobs.{tasks, last_edge}
use Rattle.job_text.specs.Shapes.{job_of}
use Rattle.channel_state.specs.Reading.{parts}
use Rattle.channel_state.specs.ImageFaults.{takes}
use Rattle.channel_state.specs.Outcomes.{Passes}
use Rattle.channel_state.proofs.PartLemmas.{part_passed, part_fails, parts_done}
use Rattle.channel_state.proofs.check.check_takes.Goals as goal

pub returns-in_err-check_takes_behind : goal.returns-in_err-check_takes_behind
returns-in_err-check_takes_behind c =
    let job = job_of c.args.shape.now in
    let part = λ (e : ℕ). parts (tasks job (suc e)) (takes job e) in
    let start = c.args.cursor.now.rest.now in
    let n = c.last_edge-edges.result + 1 in
    let p = err_from_is_err_and c.from_residual.result c.from_residual.ensures.1 in
    let many : n ≡ suc (last_edge job) = (let is = c.last_edge-edges.ensures in omega (arith, is)) in
    rw (p.1, p.2) (subst (λ k. Passes start (Err c.in_err-check_takes_behind.field-0.0) (parts k part start)) many
    (part_fails part c.loop-edge.edge n c.loop-edge.cursor.rest.now (parts n part start) c.loop-edge.invariant (omega arith) c.in_err-check_takes_behind.field-0.0.left c.in_err-check_takes_behind.ensures))

pub loop-edge-preserved : goal.loop-edge-preserved
loop-edge-preserved c =
    let job = job_of c.args.shape.now in
    let part = λ (e : ℕ). parts (tasks job (suc e)) (takes job e) in
    let start = c.args.cursor.now.rest.now in
    let n = c.last_edge-edges.result + 1 in
    part_passed part c.loop-edge.edge n c.loop-edge.cursor.rest.now (parts n part start) c.loop-edge.invariant (omega arith) c.check_takes_behind.new.cursor.rest.now c.in_ok-check_takes_behind.ensures

pub returns : goal.returns
returns c =
    let job = job_of c.args.shape.now in
    let part = λ (e : ℕ). parts (tasks job (suc e)) (takes job e) in
    let start = c.args.cursor.now.rest.now in
    let n = c.last_edge-edges.result + 1 in
    let many : n ≡ suc (last_edge job) = (let is = c.last_edge-edges.ensures in omega (arith, is)) in
    ap (λ k. parts k part start) (sym many) ∙ parts_done part c.loop-edge.edge n c.loop-edge.cursor.rest.now (parts n part start) c.loop-edge.invariant (omega arith)
