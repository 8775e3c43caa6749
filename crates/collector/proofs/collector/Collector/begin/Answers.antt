use Rattle.plain_machine.specs.Places.{sender_place}
use Rattle.collector.proofs.Acknowledging.{none_kept, empty_collector}
use Rattle.collector.proofs.collector.Collector.begin.Goals as goal

pub returns-clause-collector : goal.returns-clause-collector
returns-clause-collector c =
    empty_collector c.args.self.now _ c.args.self.now.snapshots c.requires.collector c.requires.collector.many (none_kept c.args.self.now c.requires.collector c.requires.closed)

pub returns-clause-none : goal.returns-clause-none
returns-clause-none c i a = none_kept c.args.self.now c.requires.collector c.requires.closed (sender_place c.args.self.now.job.now i a)
