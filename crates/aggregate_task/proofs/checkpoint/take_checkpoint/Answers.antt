use Rattle.aggregate_task.proofs.Checkpoints.{goes_on, breaks_off}
use Rattle.aggregate_task.proofs.checkpoint.take_checkpoint.Goals as goal

pub returns-in-Ok-clause-taken : goal.returns-in-Ok-clause-taken
returns-in-Ok-clause-taken g c =
    let at = c.requires.at in
    let job = c.args.out.now.job.now in
    let took = c.resume_all-takes.ensures.taken job _ c.args.out.now.index at.groups at.took at.at_barrier in
    goes_on c.what_was_seen_stays.ensures.seen c.what_was_seen_stays.ensures.stays (g.G.Gate.account c.args.gate.now) (g.G.Gate.account c.resume_all-takes.new.gate) (g.G.Gate.shows c.args.gate.now) (g.G.Gate.shows c.resume_all-takes.new.gate) c.args.taking.now c.resume_all-takes.new.self c.args.counts.now c.args.out.now c.acknowledge.new.out at c.acknowledge.ensures.own.1
    c.resume_all-takes.result.items took.0 took.1 c.in-Ok.last c.resume_all-takes.ensures.goes_on c.in-Ok.ensures.sent.0 c.in-Ok.ensures.sent.1

pub returns-in-Err-clause-taken : goal.returns-in-Err-clause-taken
returns-in-Err-clause-taken g c =
    let at = c.requires.at in
    let job = c.args.out.now.job.now in
    let took = c.resume_all-takes.ensures.taken job _ c.args.out.now.index at.groups at.took at.at_barrier in
    breaks_off c.what_was_seen_stays.ensures.seen c.what_was_seen_stays.ensures.stays (g.G.Gate.account c.args.gate.now) (g.G.Gate.account c.resume_all-takes.new.gate) (g.G.Gate.shows c.args.gate.now) (g.G.Gate.shows c.resume_all-takes.new.gate) c.args.taking.now c.resume_all-takes.new.self c.args.counts.now c.args.out.now c.acknowledge.new.out at c.acknowledge.ensures.own.1
    c.resume_all-takes.result.items took.0 took.1 c.in-Err.end.takes.items c.in-Err.end.cause c.in-Err.ensures.sent.1 c.in-Err.ensures.sent.0 c.in-Err.ensures.sent.2
