use Rattle.std.proofs.Common.{◌≡◌, None, arith}
use Rattle.std.proofs.lemmas.Result.{err_from_is_err_and}
use Rattle.job_text.specs.Shapes.{job_of}
use Rattle.channel_state.specs.ImageFaults.{runs}
use Rattle.channel_state.proofs.PartLemmas.{run_passed, sender_fails, count_fails, runs_done}
use Rattle.channel_state.proofs.check.check_runs.Goals as goal

pub returns-in_err-from : goal.returns-in_err-from
returns-in_err-from c =
    let job = job_of c.args.shape.now in
    let p = err_from_is_err_and c.from_residual.result c.from_residual.ensures.1 in
    rw (p.1, p.2) (sender_fails job c.args.edge c.args.to c.loop-i._i c.args.many c.loop-i.before c.loop-i.cursor.rest.now (runs job c.args.edge c.args.to c.args.many None c.args.cursor.now.rest.now) c.loop-i.invariant (omega arith)
    c.in_err-from.field-0.0.left c.in_err-from.ensures)

pub returns-in_err-some : goal.returns-in_err-some
returns-in_err-some c =
    let job = job_of c.args.shape.now in
    let p = err_from_is_err_and c.from_residual-in_err-some.result c.from_residual-in_err-some.ensures.1 in
    rw (p.1, p.2) (count_fails job c.args.edge c.args.to c.loop-i._i c.args.many c.loop-i.before c.loop-i.cursor.rest.now (runs job c.args.edge c.args.to c.args.many None c.args.cursor.now.rest.now) c.loop-i.invariant (omega arith)
    c.in_ok-from.from c.sender.new.self.rest.now c.in_err-some.field-0.0.left c.in_ok-from.ensures c.in_err-some.ensures)

pub loop-i-preserved : goal.loop-i-preserved
loop-i-preserved c =
    let job = job_of c.args.shape.now in
    run_passed job c.args.edge c.args.to c.loop-i._i c.args.many c.loop-i.before c.loop-i.cursor.rest.now (runs job c.args.edge c.args.to c.args.many None c.args.cursor.now.rest.now) c.loop-i.invariant (omega arith)
    c.in_ok-from.from c.sender.new.self.rest.now c.in_ok-some.field-0 c.some.new.self.rest.now c.in_ok-from.ensures c.in_ok-some.ensures

pub returns : goal.returns
returns c =
    let job = job_of c.args.shape.now in
    runs_done job c.args.edge c.args.to c.loop-i._i c.args.many c.loop-i.before c.loop-i.cursor.rest.now (runs job c.args.edge c.args.to c.args.many None c.args.cursor.now.rest.now) c.loop-i.invariant (omega arith)
