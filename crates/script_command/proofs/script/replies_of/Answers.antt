use Rattle.std.proofs.lemmas.Bool.{false≢true}
use Rattle.script_command.specs.Scripts.{printed_replies}
use Rattle.script_command.proofs.ScriptLemmas.{all_ahead, taken_on, none_ahead}
use Rattle.script_command.proofs.script.replies_of.Goals as goal

pub loop-event-init : goal.loop-event-init
loop-event-init g c =
    all_ahead c.args.script c.in_ok-exchange.exchange.world c.reverse_all.new.events.items c.new-text.result.items
    c.connections_stay_sound.ensures.opened c.requires.opening c.in_ok-exchange.ensures.enough c.requires.events
    c.in_ok-exchange.ensures.world c.reverse_all.ensures c.new-text.ensures

pub loop-event-preserved : goal.loop-event-preserved
loop-event-preserved g c =
    taken_on c.args.script.channels c.loop-event.exchange.world c.add_reply.new.exchange.world c.in-Some.event c.loop-event.events.items c.pop.new.self.items
    c.loop-event.text.items c.add_reply.new.text.items (printed_replies c.args.script)
    c.connections_stay_sound.ensures.steps c.in-Some.ensures.items c.in_ok-add_reply.ensures.world c.in_ok-add_reply.ensures.text c.loop-event.invariant

pub returns-clause-done : goal.returns-clause-done
returns-clause-done g c = (
  c.in_ok-exchange.ensures.enough,
  none_ahead c.args.script.channels c.loop-event.exchange.world c.loop-event.events.items c.loop-event.text.items (printed_replies c.args.script)
      (λ some. false≢true (c.in_default.ensures.some.1 some)) c.loop-event.invariant,
)
