use Rattle.std.proofs.Common.{refl}
use Rattle.record_writer.proofs.Putting.{on_err}
use Rattle.record_writer.proofs.Emitting.{has_emitted, has_put_data, was_stopped}
use Rattle.record_writer.proofs.writer.RecordWriter.emit.Goals as goal

pub returns-clause-emitted : goal.returns-clause-emitted
returns-clause-emitted g c =
    let w = c.self.inside in
    rw (← c.self.view_is)
    (has_emitted w.router.job.now w.router.edge w.router.index w.emitted c.select-number.result c.args.record.now c.select-number.ensures
    w.channels c.lay_down.new.self w.supply c.lay_down.new.supply _ c.in_ok-lay_down.ensures.supply.1.size c.in_ok-lay_down.ensures.others c.in_ok-lay_down.ensures.is_open
    (rw c.self.view_is c.requires.is_open) c.in_ok-lay_down.ensures.laid refl)

pub returns-in_err-lay_down-clause-stopped : goal.returns-in_err-lay_down-clause-stopped
returns-in_err-lay_down-clause-stopped g c =
    let w = c.self.inside in
    rw (← c.self.view_is)
    (on_err c.from_residual.result
    (was_stopped w.router.job.now w.router.edge w.router.index w.emitted c.select-number.result c.args.record.now c.select-number.ensures
    w.channels c.lay_down.new.self w.supply c.lay_down.new.supply w.emitted c.in_err-lay_down.ensures.supply.1.size c.in_err-lay_down.ensures.others c.in_err-lay_down.ensures.is_open
    (rw c.self.view_is c.requires.is_open) c.in_err-lay_down.ensures.stopped.0 c.in_err-lay_down.ensures.stopped.1))

pub returns-clause-entries : goal.returns-clause-entries
returns-clause-entries g c =
    let w = c.self.inside in
    rw (← c.self.view_is)
    (has_put_data w.router.job.now w.router.edge w.router.index w.emitted c.select-number.result c.args.record.now c.select-number.ensures
    w.channels c.lay_down.new.self w.supply c.lay_down.new.supply w.emitted c.in_ok-lay_down.ensures.supply.1.size c.in_ok-lay_down.ensures.others c.in_ok-lay_down.ensures.is_open
    c.in_ok-lay_down.ensures.entries)

pub returns-in_err-lay_down-clause-entries : goal.returns-in_err-lay_down-clause-entries
returns-in_err-lay_down-clause-entries g c =
    let w = c.self.inside in
    rw (← c.self.view_is)
    (has_put_data w.router.job.now w.router.edge w.router.index w.emitted c.select-number.result c.args.record.now c.select-number.ensures
    w.channels c.lay_down.new.self w.supply c.lay_down.new.supply w.emitted c.in_err-lay_down.ensures.supply.1.size c.in_err-lay_down.ensures.others c.in_err-lay_down.ensures.is_open
    c.in_err-lay_down.ensures.entries)

pub returns-clause-none_lost : goal.returns-clause-none_lost
returns-clause-none_lost g c = rw (← c.self.view_is) c.lay_down.ensures.none_lost

pub returns-in_err-lay_down-clause-none_lost : goal.returns-in_err-lay_down-clause-none_lost
returns-in_err-lay_down-clause-none_lost g c = rw (← c.self.view_is) c.lay_down.ensures.none_lost
