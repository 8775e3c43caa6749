use Rattle.std.proofs.Common.{subst}
use Rattle.turn_cell.specs.Passes.{mine, seen}
use Rattle.snapshot_channel.specs.Passes.{received_by}
use Rattle.collecting_worker.specs.Steps.{EndsAs}
use Rattle.collecting_worker.proofs.Ends.{account_unbegun, told_at_end}
use Rattle.collecting_worker.proofs.world.collect_images.Goals as goal

pub returns-in_default-clause-account : goal.returns-in_default-clause-account
returns-in_default-clause-account g c =
    let world = c.args.world in
    account_unbegun world.job.now c.args.start.now c.args.every (received_by world.collecting) (g.K.ImageStore.images c.args.keeper.now) (mine world.last_pass) (g.K.ImageStore.faults c.args.keeper.now) (seen c.tell_stop.new.pass) c.requires.lent.none_told

pub returns-clause-stop : goal.returns-clause-stop
returns-clause-stop g c =
    let world = c.args.world in
    let after = c.run-cause.new.self in
    told_at_end world.stop.now c.run-cause.result c.end_worker.result.cause world.stop_pass after.stop_pass c.end_worker.result.stop_pass c.requires.lent.stop.1
    c.run-cause.ensures.same.stop_number c.run-cause.ensures.told c.run-cause.ensures.stopped
    (subst (λ cell. EndsAs cell.now c.run-cause.result c.end_worker.result.cause after.stop_pass c.end_worker.result.stop_pass) c.run-cause.ensures.same.stop c.end_worker.ensures.ended)
