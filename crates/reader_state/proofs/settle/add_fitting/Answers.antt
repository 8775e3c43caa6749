use Rattle.std.proofs.Common.{arith, ◌≡◌, ap, sym, ◌∙◌}
use Rattle.std.specs.Prelude.{Err}
use Rattle.credit_reader.specs.Senders.{reader_of}
use Rattle.reader_state.proofs.Fitting.{over, in_range}
use Rattle.reader_state.proofs.settle.add_fitting.Goals as goal

pub overflow_cast-over : goal.overflow_cast-over
overflow_cast-over c =
    let o = reader_of c.args.channel c.args.readers.now.readers in
    let told = over o c.min-most.result c.in-Err-CreditOver.sum (ap Err (sym c.in-Err-CreditOver.field-0-is) ∙ sym c.in-Err-CreditOver.is ∙ c.add_credit.ensures.answer) in
    let small = in_range c.args.channel c.args.readers.now.readers c.readers_are_in_order.ensures.ranges in
    omega (arith, told.1, small)

pub overflow_sub-fits : goal.overflow_sub-fits
overflow_sub-fits c =
    let o = reader_of c.args.channel c.args.readers.now.readers in
    let told = over o c.min-most.result c.in-Err-CreditOver.sum (ap Err (sym c.in-Err-CreditOver.field-0-is) ∙ sym c.in-Err-CreditOver.is ∙ c.add_credit.ensures.answer) in
    let small = in_range c.args.channel c.args.readers.now.readers c.readers_are_in_order.ensures.ranges in
    omega (arith, told.1, small)
