use Rattle.std.proofs.Common.{arith}
use Rattle.std.proofs.lemmas.Result.{err_from_is_err_and}
use Rattle.channel_state.specs.Reading.{parts}
use Rattle.channel_state.specs.Outcomes.{part_of}
use Rattle.channel_state.proofs.PartLemmas.{part_passed, part_fails, parts_done}
use Rattle.channel_state.proofs.check.check_parts.Goals as goal

pub returns-in_err-check_part : goal.returns-in_err-check_part
returns-in_err-check_part c =
    let p = err_from_is_err_and c.from_residual.result c.from_residual.ensures.1 in
    rw (p.1, p.2) (part_fails (λ i. part_of c.args.part) c.loop-i._i c.args.many c.loop-i.cursor.rest.now (parts c.args.many (λ i. part_of c.args.part) c.args.cursor.now.rest.now) c.loop-i.invariant (omega arith)
    c.in_err-check_part.field-0.0.left c.in_err-check_part.ensures)

pub loop-i-preserved : goal.loop-i-preserved
loop-i-preserved c =
    part_passed (λ i. part_of c.args.part) c.loop-i._i c.args.many c.loop-i.cursor.rest.now (parts c.args.many (λ i. part_of c.args.part) c.args.cursor.now.rest.now) c.loop-i.invariant (omega arith)
    c.check_part.new.cursor.rest.now c.in_ok-check_part.ensures

pub returns : goal.returns
returns c = parts_done (λ i. part_of c.args.part) c.loop-i._i c.args.many c.loop-i.cursor.rest.now (parts c.args.many (λ i. part_of c.args.part) c.args.cursor.now.rest.now) c.loop-i.invariant (omega arith)
