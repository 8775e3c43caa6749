use Rattle.std.proofs.Common.{◌≡◌, ◌-◌, false, length, drop}
use Rattle.std.specs.List.{list_any}
use Rattle.subpartition.specs.Queues.{is_mark}
use Rattle.subpartition.proofs.subpartition.behind_last_barrier.Given as goal

abbrev pub invariant-loop-i : goal.invariant-loop-i
invariant-loop-i l = record { none : list_any is_mark (drop (length l.queue.items - l.i) l.queue.items) ≡ false }
