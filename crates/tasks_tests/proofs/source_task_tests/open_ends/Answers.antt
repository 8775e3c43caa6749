use Rattle.std.proofs.Common.{List, length, ap}
use Rattle.flow_defs.specs.declared.job.Stage.{Stage}
use Rattle.tasks_tests.proofs.CountingJob.{source_is}
use Rattle.tasks_tests.proofs.source_task_tests.open_ends.Goals as goal

pub returns-clause-source : goal.returns-clause-source
returns-clause-source c =
    let opened = c.in_ok-channel.ensures in
    let counting = c.requires.counting in
    source_is c.in_ok-channel.field-0.channel c.args.job.now c.in_ok-channel.field-0.passes.items c.pop.new.self.items c.pop-2.new.self.items c.in-Some._of_count c.in-Some-pop.of_source
    (ap (λ (l : List Stage). length l) counting.0) counting.1 counting.2 opened.passes_are opened.tasks_are c.in-Some.ensures.items c.in-Some-pop.ensures.items
