use Rattle.std.proofs.lemmas.Result.{on_ok_weaker, on_err_weaker}
use Rattle.subpartition.specs.declared.entry.SendEntry.TheVariants.{Finish}
use Rattle.record_writer.proofs.Marking.{has_finished, has_stopped}
use Rattle.record_writer.proofs.writer.RecordWriter.finish.Goals as goal

pub returns-clause-finished : goal.returns-clause-finished
returns-clause-finished g c =
    let w = c.self.inside in
    rw (← c.self.view_is)
    (on_ok_weaker c.close_all.result (has_finished w.router.job.now w.router.edge w.router.index w.channels c.close_all.new.self w.supply c.close_all.new.supply w.emitted c.self.invariant.channels_are.own.many_are) c.close_all.ensures.finished)

pub returns-clause-stopped : goal.returns-clause-stopped
returns-clause-stopped g c =
    let w = c.self.inside in
    rw (← c.self.view_is)
    (on_err_weaker c.close_all.result (λ h. (has_stopped w.router.job.now w.router.edge w.router.index w.channels c.close_all.new.self w.supply c.close_all.new.supply w.emitted c.self.invariant.channels_are.own.many_are Finish h.0 h.1).0) c.close_all.ensures.stopped)

pub returns-clause-entries : goal.returns-clause-entries
returns-clause-entries g c =
    let w = c.self.inside in
    rw (← c.self.view_is)
    (on_err_weaker c.close_all.result (λ h. (has_stopped w.router.job.now w.router.edge w.router.index w.channels c.close_all.new.self w.supply c.close_all.new.supply w.emitted c.self.invariant.channels_are.own.many_are Finish h.0 h.1).1) c.close_all.ensures.stopped)

pub returns-clause-none_lost : goal.returns-clause-none_lost
returns-clause-none_lost g c = rw (← c.self.view_is) c.close_all.ensures.none_lost
