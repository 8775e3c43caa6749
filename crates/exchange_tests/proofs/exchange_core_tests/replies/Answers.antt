use Rattle.std.proofs.lemmas.List.Elements.{All-from_recursion}
use Rattle.script_text.specs.Scripts.{IsEvent}
use Rattle.exchange_tests.proofs.exchange_core_tests.replies.Goals as goal

pub play-requires-clause-events : goal.play-requires-clause-events
play-requires-clause-events g c =
    let channels = c.in-Ok.script.channels in
    c.in_ok-events.ensures channels (All-from_recursion (IsEvent channels) c.in-Ok.script.events.items c.in-Ok.ensures.script.events)
