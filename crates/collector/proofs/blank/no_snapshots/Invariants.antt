use Rattle.std.proofs.Common.{◌≡◌, ℕ, None, length}
use Rattle.collector.specs.Collecting.{kept_at}
use Rattle.collector.proofs.blank.no_snapshots.Given as goal

abbrev pub invariant-loop-task : goal.invariant-loop-task
invariant-loop-task l = record { many : length l.slots.items ≡ l._task; none : (place : ℕ) → kept_at l.slots.items place ≡ None }
