use Rattle.std.proofs.Common.{◌+◌, suc, ◌≡◌, arith, ap, sym, ◌∙◌, subst}
use Rattle.std.proofs.lemmas.Result.{err_from_is_err_and}
use Rattle.flow_defs.specs.Jobs.{tasks}
use Rattle.job_text.specs.Shapes.{job_of}
use Rattle.channel_state.specs.Reading.{parts}
use Rattle.channel_state.specs.ImageFaults.{takes}
use Rattle.channel_state.specs.Outcomes.{Passes}
use Rattle.channel_state.proofs.PartLemmas.{part_passed, part_fails, parts_done}
use Rattle.channel_state.proofs.check.check_takes_behind.Goals as goal

pub returns-in_err-check_takes_of : goal.returns-in_err-check_takes_of
returns-in_err-check_takes_of c =
    let job = job_of c.args.shape.now in
    let part = takes job c.args.edge in
    let start = c.args.cursor.now.rest.now in
    let p = err_from_is_err_and c.from_residual.result c.from_residual.ensures.1 in
    let many : c.tasks-many.result ≡ tasks job (suc c.args.edge) = c.tasks-many.ensures ∙ ap (tasks job) (let z : c.args.edge + 1 ≡ suc c.args.edge = omega arith in z) in
    rw (p.1, p.2) (subst (λ n. Passes start (Rattle.std.proofs.Common.Err c.in_err-check_takes_of.field-0.0) (parts n part start)) many
    (part_fails part c.loop-to.to c.tasks-many.result c.loop-to.cursor.rest.now (parts c.tasks-many.result part start) c.loop-to.invariant (omega arith) c.in_err-check_takes_of.field-0.0.left c.in_err-check_takes_of.ensures))

pub loop-to-preserved : goal.loop-to-preserved
loop-to-preserved c =
    let part = takes (job_of c.args.shape.now) c.args.edge in
    let start = c.args.cursor.now.rest.now in
    part_passed part c.loop-to.to c.tasks-many.result c.loop-to.cursor.rest.now (parts c.tasks-many.result part start) c.loop-to.invariant (omega arith) c.check_takes_of.new.cursor.rest.now c.in_ok-check_takes_of.ensures

pub returns : goal.returns
returns c =
    let job = job_of c.args.shape.now in
    let part = takes job c.args.edge in
    let start = c.args.cursor.now.rest.now in
    let many : c.tasks-many.result ≡ tasks job (suc c.args.edge) = c.tasks-many.ensures ∙ ap (tasks job) (let z : c.args.edge + 1 ≡ suc c.args.edge = omega arith in z) in
    ap (λ n. parts n part start) (sym many) ∙ parts_done part c.loop-to.to c.tasks-many.result c.loop-to.cursor.rest.now (parts c.tasks-many.result part start) c.loop-to.invariant (omega arith)
