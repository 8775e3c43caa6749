use Rattle.std.proofs.Common.{ap, ◌∙◌}
use Rattle.turn_cell.specs.Passes.{seen}
use Rattle.snapshot_channel.specs.Passes.{received_by}
use Rattle.collecting_worker.proofs.Breaks.{breaks_at, breaks_told, complete_at}
use Rattle.collecting_worker.proofs.worker.Worker.make.Goals as goal

pub returns-in-Err-clause-fault : goal.returns-in-Err-clause-fault
returns-in-Err-clause-fault g c =
    let gathering = c.gather-gathered.new.self in
    breaks_told c.args.self.now.job.now (received_by gathering.pass) c.args.checkpoint (seen c.gather-gathered.new.stop_pass) (seen c.tell_cause.new.pass) c.in-Err.cause
    (λ fell rose. breaks_at gathering.collector.job.now c.args.self.now.job.now (received_by gathering.pass) c.args.checkpoint fell rose (seen c.gather-gathered.new.stop_pass) c.in-Err.cause
    (ap (λ j. j.now) c.gather-gathered.ensures.same.job_is ∙ c.requires.worker.job_is) (c.in-Err.ensures.fault fell rose))
    c.tell_cause.ensures.calm

pub returns-in-Err-spell-clause-fault : goal.returns-in-Err-spell-clause-fault
returns-in-Err-spell-clause-fault g c = λ fell rose.
    let gathering = c.gather-gathered.new.self in
    c.in-Err-spell.ensures.fault (received_by gathering.pass) c.args.checkpoint fell rose (seen c.tell_cause-in-Err-spell.new.pass)
    (complete_at gathering.collector.job.now c.args.self.now.job.now (received_by gathering.pass) c.args.checkpoint c.in-Ok.image (ap (λ j. j.now) c.gather-gathered.ensures.same.job_is ∙ c.requires.worker.job_is) c.in-Ok.ensures.complete)
