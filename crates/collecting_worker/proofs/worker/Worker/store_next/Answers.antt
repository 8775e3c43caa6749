use Rattle.collecting_worker.proofs.Breaks.{stored_by}
use Rattle.collecting_worker.proofs.worker.Worker.store_next.Goals as goal

pub returns-in-Ok-clause-stored : goal.returns-in-Ok-clause-stored
returns-in-Ok-clause-stored g c =
    let made = c.make.ensures in
    let kept = c.keep.ensures in
    stored_by c.args.self.now c.make.new.self c.keep.new.self c.args.checkpoint c.in-Ok.field-0.image c.in-Ok.field-0.bytes (g.K.ImageStore.images c.args.keeper.now) (g.K.ImageStore.images c.keep.new.keeper) c.keep.result
    c.in-Ok.ensures.ready kept.same.0 kept.same.1 made.still.0 c.in-Ok.ensures.untold kept.kept

pub returns-in-Err-clause-fault : goal.returns-in-Err-clause-fault
returns-in-Err-clause-fault g c = c.in-Err.ensures.fault (g.K.ImageStore.faults c.args.keeper.now) (g.K.ImageStore.faults c.args.keeper.now)
