use Rattle.std.proofs.Common.{Some}
use Rattle.std.proofs.lemmas.List.Elements.{All-pop, All-push, All-same}
use Rattle.script_text.specs.Scripts.{IsEvent}
use Rattle.exchange_tests.proofs.exchange_core_tests.reversed.Goals as goal

pub events-preserved : goal.events-preserved
events-preserved c = λ channels all.
    let before = c.events.invariant channels all in
    let popped = All-pop (IsEvent channels) c.events.events.items c.pop.new.self.items (Some c.in-Some.event) c.in-Some.ensures.items before.0 in
    (popped.0, All-same (IsEvent channels) _ _ c.in_ok-push.ensures.ok (All-push (IsEvent channels) c.events.reversed.items c.in-Some.event before.1 popped.1))

pub returns : goal.returns
returns c = λ channels all. (c.events.invariant channels all).1
