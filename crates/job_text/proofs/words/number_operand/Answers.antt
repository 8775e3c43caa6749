use Rattle.std.proofs.Common.{◌≡◌, Some, None, ap, sym, ◌∙◌, arith}
use Rattle.job_text.specs.Words.{whole_number}
use Rattle.job_text.proofs.NumberWords.{number_found, no_number, no_operand}
use Rattle.job_text.proofs.words.number_operand.Goals as goal

pub returns-in-Some : goal.returns-in-Some
returns-in-Some c =
    let word = c.in-Ok.found.0.now in
    let same : c.as_bytes.result.now ≡ word = c.as_bytes.ensures.value ∙ c.text.ensures in
    let number : whole_number c.args.most word ≡ Some c.in-Some.field-0 = ap (whole_number c.args.most) (sym same) ∙ sym c.whole_number.ensures ∙ c.in-Some.is in
    let found = number_found c.args.most c.in-Some.field-0 word c.args.words.now c.in-Ok.found.1.now (let high = c.ranges.most in omega (arith, high)) c.in-Ok.ensures.0 c.in-Ok.ensures.1 number in
    (c.in-Some.field-0, found.0, found.1, found.2)

pub returns-in-None : goal.returns-in-None
returns-in-None c =
    let word = c.in-Ok.found.0.now in
    let same : c.as_bytes.result.now ≡ word = c.as_bytes.ensures.value ∙ c.text.ensures in
    let none : whole_number c.args.most word ≡ None = ap (whole_number c.args.most) (sym same) ∙ sym c.whole_number.ensures ∙ c.in-None.is in
    no_number c.args.most word c.args.words.now c.in-Ok.found.1.now c.in-Ok.ensures.0 c.in-Ok.ensures.1 none

pub returns-in-Err : goal.returns-in-Err
returns-in-Err c = no_operand c.args.most c.args.words.now c.in-Err.kind c.in-Err.ensures
