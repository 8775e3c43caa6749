use Rattle.std.proofs.Common.{◌≡◌, ◌≢◌, ℕ, ◌<◌, None}
use Rattle.collector.specs.Collecting.{kept_at}
use Rattle.collector.proofs.collector.are_kept_but.Given as goal

abbrev pub invariant-loop-i : goal.invariant-loop-i
invariant-loop-i l = (i : ℕ) → i < l.i → i ≢ l.place → kept_at l.snapshots i ≢ None
