use Rattle.image_tests.proofs.SnapshotChannelCountingJob.{ends_are}
use Rattle.image_tests.proofs.snapshot_channel_tests.open_ends.Goals as goal

pub returns-clause-source : goal.returns-clause-source
returns-clause-source c =
    let opened = c.in_ok-channel.ensures in
    let counting = c.requires.counting in
    (ends_are c.in_ok-channel.field-0.channel c.args.job.now c.in_ok-channel.field-0.passes.items c.pop.new.self.items c.pop-2.new.self.items c.in-Some.of_count c.in-Some-pop.of_source
    counting.0 counting.1 counting.2 opened.passes_are opened.tasks_are c.in-Some.ensures.items c.in-Some-pop.ensures.items).0

pub returns-clause-count : goal.returns-clause-count
returns-clause-count c =
    let opened = c.in_ok-channel.ensures in
    let counting = c.requires.counting in
    (ends_are c.in_ok-channel.field-0.channel c.args.job.now c.in_ok-channel.field-0.passes.items c.pop.new.self.items c.pop-2.new.self.items c.in-Some.of_count c.in-Some-pop.of_source
    counting.0 counting.1 counting.2 opened.passes_are opened.tasks_are c.in-Some.ensures.items c.in-Some-pop.ensures.items).1
