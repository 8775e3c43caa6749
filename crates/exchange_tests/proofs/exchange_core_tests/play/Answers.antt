use Rattle.std.proofs.Common.{◌≡◌, ℕ, List, [], ◌∷◌, ◌++◌, Some, sym, subst}
use Rattle.std.specs.List.{All}
use Rattle.std.proofs.lemmas.List.Elements.{All-pop}
use Rattle.script_text.specs.declared.event.Event.{Event}
use Rattle.script_text.specs.Scripts.{IsEvent}
use Rattle.exchange_world.specs.Worlds.{World}
use Rattle.exchange_world.specs.Steps.{step}
use Rattle.exchange_world.specs.Sound.{IsSound}
use Rattle.exchange_world.specs.Laws.{StepsKeepSound}
use Rattle.exchange_tests.proofs.exchange_core_tests.play.Goals as goal

played : (m : ℕ) (w later : World) (es rest : List Event) (e : Event) → StepsKeepSound → IsSound m w × All (IsEvent m) es → es ≡ rest ++ e ∷ [] → later ≡ (step w e).0 → IsSound m later × All (IsEvent m) rest
played m w later es rest e keep before popped stepped =
    let events = All-pop (IsEvent m) es rest (Some e) popped before.1 in
    (subst (IsSound m) (sym stepped) (keep m w e before.0 events.1), events.0)

pub events-preserved : goal.events-preserved
events-preserved g c =
    played c.args.channels c.events.exchange.world c.step.new.self.world c.events.events.items c.pop.new.self.items c.in-Some.event
    c.connections_stay_sound.ensures.steps c.events.invariant c.in-Some.ensures.items c.in_ok-reply.ensures.world.0

pub events-preserved-in_ok-write_reply : goal.events-preserved-in_ok-write_reply
events-preserved-in_ok-write_reply g c =
    played c.args.channels c.events.exchange.world c.step.new.self.world c.events.events.items c.pop.new.self.items c.in-Some.event
    c.connections_stay_sound.ensures.steps c.events.invariant c.in-Some.ensures.items c.in_ok-reply.ensures.world.0

pub events-preserved-in_ok-write_reply-2 : goal.events-preserved-in_ok-write_reply-2
events-preserved-in_ok-write_reply-2 g c =
    played c.args.channels c.events.exchange.world c.step.new.self.world c.events.events.items c.pop.new.self.items c.in-Some.event
    c.connections_stay_sound.ensures.steps c.events.invariant c.in-Some.ensures.items c.in_ok-reply.ensures.world.0

pub events-preserved-in_ok-write_reply-3 : goal.events-preserved-in_ok-write_reply-3
events-preserved-in_ok-write_reply-3 g c =
    played c.args.channels c.events.exchange.world c.step.new.self.world c.events.events.items c.pop.new.self.items c.in-Some.event
    c.connections_stay_sound.ensures.steps c.events.invariant c.in-Some.ensures.items c.in_ok-reply.ensures.world.0

pub events-preserved-in_ok-write_reply-4 : goal.events-preserved-in_ok-write_reply-4
events-preserved-in_ok-write_reply-4 g c =
    played c.args.channels c.events.exchange.world c.step.new.self.world c.events.events.items c.pop.new.self.items c.in-Some.event
    c.connections_stay_sound.ensures.steps c.events.invariant c.in-Some.ensures.items c.in_ok-reply.ensures.world.0

pub events-preserved-in_ok-write_reply-5 : goal.events-preserved-in_ok-write_reply-5
events-preserved-in_ok-write_reply-5 g c =
    played c.args.channels c.events.exchange.world c.step.new.self.world c.events.events.items c.pop.new.self.items c.in-Some.event
    c.connections_stay_sound.ensures.steps c.events.invariant c.in-Some.ensures.items c.in_ok-reply.ensures.world.0
