use Rattle.std.proofs.Common.{length, ap, subst, arith}
use Rattle.subpartition.specs.declared.entry.SendEntry.TheVariants.{Finish}
use Rattle.record_writer.specs.Channels.{WasStoppedAt}
use Rattle.record_writer.specs.Lists.{own_of, laid_of}
use Rattle.record_writer.proofs.Putting.{on_err}
use Rattle.record_writer.proofs.Ending.{ended_or_stopped}
use Rattle.record_writer.proofs.InOrder.{stopped_here}
use Rattle.record_writer.proofs.Segments.{lost_none_on}
use Rattle.record_writer.proofs.channels.Channels.close_all.Goals as goal

pub returns-in_err-close-clause-stopped : goal.returns-in_err-close-clause-stopped
returns-in_err-close-clause-stopped g c =
    let was = c.args.self.now in let mid = c.loop-number.self in let now = c.close.new.self in let k = c.loop-number.number in
    let size = c.args.supply.now.size in let stopped = c.in_err-close.ensures.stopped in
    on_err c.from_residual.result (
      stopped_here was mid now k c.loop-number.invariant.others c.close.ensures.others size (length was.passes.items) Finish c.requires.are_open
          (λ d low. ended_or_stopped size (own_of was d) (own_of mid d) (laid_of was d) (c.loop-number.invariant.closed d low))
          (subst (λ s. WasStoppedAt s Finish (own_of mid k) (own_of now k) (laid_of mid k)) c.loop-number.invariant.same.size stopped.0),
      stopped.1,
    )

pub returns-clause-finished : goal.returns-clause-finished
returns-clause-finished g c = λ d low. c.loop-number.invariant.closed d (omega (arith, low, c.loop-number-test.false, c.loop-number.auto.number-end, ap length c.as_slice-many.ensures))

pub returns-in_err-close-clause-none_lost : goal.returns-in_err-close-clause-none_lost
returns-in_err-close-clause-none_lost g c = lost_none_on c.args.supply.now c.loop-number.supply c.close.new.supply c.args.self.now c.loop-number.self c.close.new.self c.loop-number.invariant.none_lost c.close.ensures.none_lost
