use Rattle.job_plan.proofs.CountLemmas.{inserted}
use Rattle.job_plan.proofs.counts.put_new.Goals as goal

pub returns-clause-ok : goal.returns-clause-ok
returns-clause-ok c = inserted c.args.numbers.now.entries c.insert.new.self.entries c.args.key c.args.value c.in_ok-insert.ensures.updates.0
