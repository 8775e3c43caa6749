use Rattle.input_channel.proofs.LineLemmas.{AreGoing}
use Rattle.input_channel.proofs.queue.take_polled.Given as goal

abbrev pub invariant-marks : goal.invariant-marks
invariant-marks l = AreGoing l.fn.barriers.items l.fn.polled l.barriers.items l.left

abbrev pub decreases-marks : goal.decreases-marks
decreases-marks l = l.left
