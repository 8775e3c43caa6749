use Rattle.std.proofs.Common.{rules, ◌≡◌, false, ◌∙◌, ap, Err}
use Rattle.std.proofs.lemmas.Result.{err_from_is_err_and}
use Rattle.outside.specs.Memory.{is_listed, counted}
use Rattle.outside.proofs.memory_keeper.MemoryKeeperKeeper.last.Goals as goal

pub returns-in_err-last_of-clause-step : goal.returns-in_err-last_of-clause-step
returns-in_err-last_of-clause-step c =
    let passed = err_from_is_err_and c.from_residual.result c.from_residual.ensures.1 in
    let memory = passed.1 ∙ ap Err passed.2 in
    let listed : is_listed c.args.self.now.lasts (counted c.args.self.now.last_calls) ≡ false = search rules in
    rw memory (listed, search rules)
