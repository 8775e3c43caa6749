use Rattle.std.proofs.Common.{◌+◌, ◌++◌, length, ap, arith, length-append}
use Rattle.std.proofs.lemmas.Bool.{eqb-true, eq-eqb}
use Rattle.collector.proofs.FaultLemmas.{nothing_of}
use Rattle.collector.proofs.fault.has_none.Goals as goal

pub returns : goal.returns
returns c =
    let first = c.args.first.now in
    let second = c.args.second.now in
    let many = length-append first second in (
      (λ is. let none = eqb-true (length first + length second) 0 is in nothing_of (first ++ second) (omega (arith, none, many))),
      (λ is. let none = ap length is in eq-eqb (length first + length second) 0 (omega (arith, none, many))),
    )
