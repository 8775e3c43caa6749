use Rattle.std.proofs.Common.{◌+◌, refl, ap, ◌∙◌, arith}
use Rattle.turn_cell.specs.Passes.{mine, seen}
use Rattle.snapshot_channel.specs.Passes.{received_by}
use Rattle.collector.specs.declared.collector.Checkpoint.{Checkpoint}
use Rattle.collecting_worker.proofs.Runs.{broken_account, done_account, going_on}
use Rattle.collecting_worker.proofs.Going.{begins}
use Rattle.collecting_worker.proofs.Same.{worker_same, worker_twice}
use Rattle.collecting_worker.proofs.worker.Worker.run.Goals as goal

pub loop-before-init : goal.loop-before-init
loop-before-init g c =
    let w = c.args.self.now in
    let fresh = c.requires.fresh in
    record {
      same = worker_same w;
      worker = c.requires.worker;
      going = begins w.job.now c.args.start.now c.args.every (received_by w.gathering.pass) (g.K.ImageStore.images c.args.keeper.now) (mine w.last_pass) w.last (c.args.start.now.number + 1) c.first_is_last-final_one.result c.requires.start.1 fresh.0 fresh.2 refl c.first_is_last-final_one.ensures;
      stop = fresh.1;
      cell = c.requires.cell;
      above = c.requires.above;
      never_falls = omega arith;
    }

pub returns-then-final_one-clause-account : goal.returns-then-final_one-clause-account
returns-then-final_one-clause-account g c =
    let was = c.loop-before.invariant in
    let images = g.K.ImageStore.images in
    let faults = g.K.ImageStore.faults in
    let cp : Checkpoint = record { number = c.loop-before.before + 1; final_one = c.loop-before.final_one } in
    let same = worker_twice c.args.self.now c.loop-before.self c.store_next.new.self was.same c.store_next.ensures.same in
    let stored = c.in-Ok.ensures.stored in
    done_account c.snapshots_make_fitting.ensures c.args.self.now.job.now c.args.start.now c.args.every c.loop-before.self c.store_next.new.self (images c.args.keeper.now) (images c.loop-before.keeper) (images c.store_next.new.keeper) cp
    c.store_next.ensures.same.gathering.received was.going (ap (λ j. j.now) same.job_is) stored.0 stored.1 c.in-Ok.all_ended stored.2 stored.3
    (faults c.args.keeper.now) (faults c.store_next.new.keeper) (seen c.store_next.new.self.stop_pass) (omega (arith, was.never_falls, c.store_next.ensures.never_falls)) c.if-final_one.true

pub returns-in-Err-clause-account : goal.returns-in-Err-clause-account
returns-in-Err-clause-account g c =
    let was = c.loop-before.invariant in
    let images = g.K.ImageStore.images in
    let faults = g.K.ImageStore.faults in
    let cp : Checkpoint = record { number = c.loop-before.before + 1; final_one = c.loop-before.final_one } in
    let same = worker_twice c.args.self.now c.loop-before.self c.store_next.new.self was.same c.store_next.ensures.same in
    broken_account c.snapshots_make_fitting.ensures c.args.self.now.job.now c.args.start.now c.args.every c.loop-before.self c.store_next.new.self (images c.args.keeper.now) (images c.loop-before.keeper) (images c.store_next.new.keeper) cp
    c.store_next.ensures.same.gathering.received was.going (ap (λ j. j.now) same.job_is)
    (faults c.args.keeper.now) (faults c.loop-before.keeper) (faults c.store_next.new.keeper) (seen c.store_next.new.self.stop_pass) c.in-Err.cause was.never_falls c.store_next.ensures.never_falls c.in-Err.ensures.broken c.in-Err.ensures.fault

pub loop-before-preserved : goal.loop-before-preserved
loop-before-preserved g c =
    let was = c.loop-before.invariant in
    let images = g.K.ImageStore.images in
    let cp : Checkpoint = record { number = c.loop-before.before + 1; final_one = c.loop-before.final_one } in
    let same = worker_twice c.args.self.now c.loop-before.self c.store_next.new.self was.same c.store_next.ensures.same in
    let stored = c.in-Ok.ensures.stored in
    record {
      same = same;
      worker = c.in-Ok.ensures.worker;
      going = going_on c.snapshots_make_fitting.ensures c.args.self.now.job.now c.args.start.now c.args.every c.loop-before.self c.store_next.new.self (images c.args.keeper.now) (images c.loop-before.keeper) (images c.store_next.new.keeper) cp
          c.store_next.ensures.same.gathering.received was.going (ap (λ j. j.now) same.job_is) stored.0 stored.1 c.in-Ok.all_ended stored.2 stored.3 (c.loop-before.before + 1 + 1) (omega arith) c.if-final_one.false;
      stop = stored.3.stop ∙ was.stop;
      cell = c.store_next.ensures.cell;
      above = c.in-Ok.ensures.above;
      never_falls = omega (arith, was.never_falls, c.store_next.ensures.never_falls);
    }
