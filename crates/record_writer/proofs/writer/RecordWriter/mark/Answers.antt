use Rattle.std.proofs.Common.{◌<◌, sym, subst}
use Rattle.std.proofs.lemmas.Result.{on_ok_weaker, on_err_weaker}
use Rattle.subpartition.specs.declared.entry.SendEntry.TheVariants.{PutInline}
use Rattle.record_writer.specs.Writers.{IsNextBarrier}
use Rattle.record_writer.proofs.Emitting.{writer_of}
use Rattle.record_writer.proofs.Marking.{has_marked, has_stopped}
use Rattle.record_writer.proofs.writer.RecordWriter.mark.Goals as goal

pub mark_all-requires-clause-next : goal.mark_all-requires-clause-next
mark_all-requires-clause-next g c =
    let w = c.self.inside in
    let next : IsNextBarrier (writer_of w.router.job.now w.router.edge w.router.index w.channels w.supply w.emitted) c.args.k = subst (λ x. IsNextBarrier x c.args.k) (sym c.self.view_is) c.requires.next in
    λ d low. next d (subst (λ m. d < m) c.self.invariant.channels_are.own.many_are low)

pub returns-clause-marked : goal.returns-clause-marked
returns-clause-marked g c =
    let w = c.self.inside in
    rw (← c.self.view_is)
    (on_ok_weaker c.mark_all.result (has_marked w.router.job.now w.router.edge w.router.index w.channels c.mark_all.new.self w.supply c.mark_all.new.supply w.emitted c.self.invariant.channels_are.own.many_are c.args.k c.mark_all.ensures.supply.1.size) c.mark_all.ensures.marked)

pub returns-clause-stopped : goal.returns-clause-stopped
returns-clause-stopped g c =
    let w = c.self.inside in
    rw (← c.self.view_is)
    (on_err_weaker c.mark_all.result (λ h. (has_stopped w.router.job.now w.router.edge w.router.index w.channels c.mark_all.new.self w.supply c.mark_all.new.supply w.emitted c.self.invariant.channels_are.own.many_are (PutInline c.args.k) h.0 h.1).0) c.mark_all.ensures.stopped)

pub returns-clause-entries : goal.returns-clause-entries
returns-clause-entries g c =
    let w = c.self.inside in
    rw (← c.self.view_is)
    (on_err_weaker c.mark_all.result (λ h. (has_stopped w.router.job.now w.router.edge w.router.index w.channels c.mark_all.new.self w.supply c.mark_all.new.supply w.emitted c.self.invariant.channels_are.own.many_are (PutInline c.args.k) h.0 h.1).1) c.mark_all.ensures.stopped)

pub returns-clause-none_lost : goal.returns-clause-none_lost
returns-clause-none_lost g c = rw (← c.self.view_is) c.mark_all.ensures.none_lost
