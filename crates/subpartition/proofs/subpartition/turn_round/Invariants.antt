use Rattle.std.proofs.Common.{◌≡◌, ◌++◌, take, drop}
use Rattle.circular_buffer.specs.Buffer.{buffer}
use Rattle.subpartition.proofs.subpartition.turn_round.Given as goal

abbrev pub invariant-loop-moved : goal.invariant-loop-moved
invariant-loop-moved l = record { turned : l.queue ≡ buffer (drop l._moved l.fn.queue.items ++ take l._moved l.fn.queue.items) l.fn.queue.capacity }
