use Rattle.std.proofs.Common.{◌-◌, List, length, drop}
use Rattle.input_channel.specs.declared.held.HeldBuf.{HeldBuf}
use Rattle.input_channel.proofs.LineLemmas.{IsLooked}
use Rattle.input_channel.proofs.queue.count_before.Given as goal

abbrev pub invariant-marks : goal.invariant-marks
invariant-marks l = (buffers : List HeldBuf) → IsLooked l.k l.count (drop l.i l.barriers.items) l.barriers.items buffers

abbrev pub decreases-marks : goal.decreases-marks
decreases-marks l = length l.barriers.items - l.i
