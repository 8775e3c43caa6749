use Rattle.std.proofs.Common.{length}
use Rattle.std.specs.List.{All}
use Rattle.script_text.specs.Scripts.{IsEvent}
use Rattle.exchange_world.specs.Sound.{IsSound}
use Rattle.exchange_tests.proofs.exchange_core_tests.play.Given as goal

abbrev pub invariant-events : goal.invariant-events
invariant-events g l = IsSound l.channels l.exchange.world × All (IsEvent l.channels) l.events.items

abbrev pub decreases-events : goal.decreases-events
decreases-events g l = length l.events.items
