use Rattle.tasks_tests.proofs.RaisingJob.{stage_is}
use Rattle.tasks_tests.proofs.stage_task_tests.open_ends.Goals as goal

pub returns-clause-stage : goal.returns-clause-stage
returns-clause-stage c =
    let opened = c.in_ok-channel.ensures in
    let many = c.requires.tasks in
    stage_is c.in_ok-channel.field-0.channel c.args.job.now c.in_ok-channel.field-0.passes.items c.pop.new.self.items c.pop-2.new.self.items c.in-Some._of_count c.in-Some-pop.of_stage
    c.requires.is_job.1 many.0 many.1 many.2 opened.passes_are opened.tasks_are c.in-Some.ensures.items c.in-Some-pop.ensures.items
