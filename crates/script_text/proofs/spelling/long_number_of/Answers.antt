use Rattle.std.proofs.Common.{◌<◌, ◌^◌, sym, ap, ◌∙◌, arith}
use Rattle.script_text.specs.Reading.{number_of}
use Rattle.script_text.proofs.Numbers.{number_spelled, number_outside}
use Rattle.script_text.proofs.spelling.long_number_of.Goals as goal
use Rattle.script_text.proofs.spelling.long_number_of.Goals.{then-number-least-via-then-number-least, then-number-least-via-else-number-least+then-number-most}

pub returns-then-number-least-clause-value : goal.returns-then-number-least-clause-value
returns-then-number-least-clause-value c =
    let n = c.in_ok-number.number in
    let fits : n < 2 ^ 64 = omega arith in
    sym (number_outside c.args.least c.args.most c.args.word.now (omega arith) n fits c.in_ok-number.ensures.some (λ low high. elim c.then-number-least.branch [
      | then-number-least-via-then-number-least w ↦ let under = w.if-number-least.true in omega (arith, under, low)
      | then-number-least-via-else-number-least+then-number-most w ↦ let over = w.if-number-most.true in omega (arith, over, high)
    ]))

pub returns-clause-value : goal.returns-clause-value
returns-clause-value c =
    let n = c.in_ok-number.number in
    let fits : n < 2 ^ 64 = omega arith in
    sym (number_spelled c.args.least c.args.most n fits (omega arith) (omega arith)) ∙ ap (number_of c.args.least c.args.most) (sym c.in_ok-number.ensures.some)
