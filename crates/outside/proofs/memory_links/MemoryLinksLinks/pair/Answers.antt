use Rattle.std.proofs.Common.{rules, ◌≡◌, true, false, ◌∙◌, ap, Err}
use Rattle.std.proofs.lemmas.Result.{err_from_is_err_and}
use Rattle.outside.specs.Memory.{is_listed, counted}
use Rattle.outside.proofs.memory_links.MemoryLinksLinks.pair.Goals as goal

pub returns-then-contains-clause-step : goal.returns-then-contains-clause-step
returns-then-contains-clause-step c =
    let listed : is_listed c.args.self.now.pairs (counted c.args.self.now.calls) ≡ true = search rules in
    (listed, search rules)

pub returns-in_err-reserve-clause-step : goal.returns-in_err-reserve-clause-step
returns-in_err-reserve-clause-step c =
    let passed = err_from_is_err_and c.from_residual.result c.from_residual.ensures.1 in
    let memory = passed.1 ∙ ap Err passed.2 in
    let listed : is_listed c.args.self.now.pairs (counted c.args.self.now.calls) ≡ false = search rules in
    rw memory (listed, search rules)

pub returns-in_err-wire-clause-step : goal.returns-in_err-wire-clause-step
returns-in_err-wire-clause-step c =
    let passed = err_from_is_err_and c.from_residual-in_err-wire.result c.from_residual-in_err-wire.ensures.1 in
    let memory = passed.1 ∙ ap Err passed.2 in
    let listed : is_listed c.args.self.now.pairs (counted c.args.self.now.calls) ≡ false = search rules in
    rw memory (listed, search rules)
