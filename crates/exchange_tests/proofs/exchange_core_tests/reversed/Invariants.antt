use Rattle.std.proofs.Common.{ℕ, length}
use Rattle.std.specs.List.{All}
use Rattle.script_text.specs.Scripts.{IsEvent}
use Rattle.exchange_tests.proofs.exchange_core_tests.reversed.Given as goal

abbrev pub invariant-events : goal.invariant-events
invariant-events l = (channels : ℕ) → All (IsEvent channels) l.fn.events.items → All (IsEvent channels) l.events.items × All (IsEvent channels) l.reversed.items

abbrev pub decreases-events : goal.decreases-events
decreases-events l = length l.events.items
