use Rattle.std.proofs.Common.{length, ap, subst, arith}
use Rattle.subpartition.specs.declared.entry.SendEntry.TheVariants.{PutInline}
use Rattle.record_writer.specs.Channels.{WasStoppedAt}
use Rattle.record_writer.specs.Lists.{own_of, laid_of}
use Rattle.record_writer.proofs.Putting.{on_err}
use Rattle.record_writer.proofs.Ending.{marked_or_stopped}
use Rattle.record_writer.proofs.InOrder.{stopped_here}
use Rattle.record_writer.proofs.Segments.{lost_none_on}
use Rattle.record_writer.proofs.channels.Channels.mark_all.Goals as goal

pub returns-in_err-mark-clause-stopped : goal.returns-in_err-mark-clause-stopped
returns-in_err-mark-clause-stopped g c =
    let was = c.args.self.now in let mid = c.loop-number.self in let now = c.mark.new.self in let k = c.loop-number.number in
    let size = c.args.supply.now.size in let stopped = c.in_err-mark.ensures.stopped in
    on_err c.from_residual.result (
      stopped_here was mid now k c.loop-number.invariant.others c.mark.ensures.others size (length was.passes.items) (PutInline c.args.k) c.requires.are_open
          (λ d low. marked_or_stopped size c.args.k (own_of was d) (own_of mid d) (laid_of was d) (c.loop-number.invariant.marked d low).0)
          (subst (λ s. WasStoppedAt s (PutInline c.args.k) (own_of mid k) (own_of now k) (laid_of mid k)) c.loop-number.invariant.same.size stopped.0),
      stopped.1,
    )

pub returns-clause-marked : goal.returns-clause-marked
returns-clause-marked g c = λ d low. c.loop-number.invariant.marked d (omega (arith, low, c.loop-number-test.false, c.loop-number.auto.number-end, ap length c.as_slice-number-end.ensures))

pub returns-in_err-mark-clause-none_lost : goal.returns-in_err-mark-clause-none_lost
returns-in_err-mark-clause-none_lost g c = lost_none_on c.args.supply.now c.loop-number.supply c.mark.new.supply c.args.self.now c.loop-number.self c.mark.new.self c.loop-number.invariant.none_lost c.mark.ensures.none_lost
