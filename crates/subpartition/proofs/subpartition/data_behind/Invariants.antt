use Rattle.std.proofs.Common.{◌≡◌, ◌++◌, drop}
use Rattle.subpartition.specs.Queues.{data_in}
use Rattle.subpartition.proofs.subpartition.data_behind.Given as goal

abbrev pub invariant-loop-i : goal.invariant-loop-i
invariant-loop-i l = record { copied : l.bytes.items ++ data_in (drop l.i l.queue.items) ≡ data_in (drop l.place l.queue.items) }
