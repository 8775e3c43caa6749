use Rattle.std.proofs.Common.{sym, arith}
use Rattle.std.proofs.lemmas.Bool.Decides.{nat_tests}
use Rattle.task_taking.proofs.Noting.{last_is}
use Rattle.task_taking.proofs.runs.can_grow.Goals as goal

pub returns-in-Some : goal.returns-in-Some
returns-in-Some c = λ less. let last = last_is c.args.runs.now c.in-Some.last.now (sym c.in-Some.ensures.value) in grind (arith, nat_tests)
