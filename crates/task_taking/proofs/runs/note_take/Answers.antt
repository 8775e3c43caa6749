use Rattle.std.proofs.Common.{◌≡◌, ap, ◌∙◌, arith}
use Rattle.task_taking.specs.Runs.{last_count}
use Rattle.task_taking.proofs.Noting.{last_count-end, runs-grown, runs-new}
use Rattle.task_taking.proofs.runs.note_take.Goals as goal

pub overflow_add-last : goal.overflow_add-last
overflow_add-last c = let last : last_count c.args.runs.now.items ≡ c.in-Some.last.count = ap last_count c.in-Some.ensures.items ∙ last_count-end c.pop.new.self.items c.in-Some.last in omega (arith, last, c.requires.grows)

pub returns-then-last-from-clause-are_runs : goal.returns-then-last-from-clause-are_runs
returns-then-last-from-clause-are_runs c = λ job e b joined are.
    runs-grown job e b c.args.runs.now.items c.pop.new.self.items c.push_run.new.runs.items c.in-Some.last c.args.from c.in-Some.ensures.items c.if-last-from.true c.push_run.ensures.items are

pub returns-else-last-from-clause-are_runs : goal.returns-else-last-from-clause-are_runs
returns-else-last-from-clause-are_runs c = λ job e b joined are.
    runs-new job e b c.args.runs.now.items c.pop.new.self.items c.push_run-else-last-from.new.runs.items c.push_run-else-last-from-2.new.runs.items c.in-Some.last c.args.from c.in-Some.ensures.items c.if-last-from.false joined
    c.push_run-else-last-from.ensures.items c.push_run-else-last-from-2.ensures.items are
