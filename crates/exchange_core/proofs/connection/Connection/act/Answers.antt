use Rattle.std.proofs.Common.{length, sym, subst, ◌∙◌}
use Rattle.script_text.specs.declared.event.Event.TheVariants as events
use Rattle.script_text.specs.Scripts.{IsEvent}
use Rattle.exchange_world.specs.Steps.{emits}
use Rattle.exchange_world.specs.Sound.{IsSound}
use Rattle.exchange_core.specs.Exchanges.{world_of}
use Rattle.exchange_core.proofs.connection.Connection.act.Goals as goal

-- an event keeps the world sound
pub emit-requires-clause-sound : goal.emit-requires-clause-sound
emit-requires-clause-sound g c =
    let n = length c.args.self.now.lanes.items in let w = world_of c.args.self.now in let e = events.Emit c.in-Emit.c c.in-Emit.text in
    let sound = c.connections_stay_sound.ensures.steps n w e c.requires.whole.sound (subst (IsEvent n) c.in-Emit.is c.requires.event) in
    subst (λ text. IsSound n (emits w c.in-Emit.c text).0) (sym c.as_slice.ensures) sound

pub emit-requires-in-Fill-clause-sound : goal.emit-requires-in-Fill-clause-sound
emit-requires-in-Fill-clause-sound g c =
    let n = length c.args.self.now.lanes.items in let w = world_of c.args.self.now in let e = events.Fill c.in-Fill.c c.in-Fill.n in
    let sound = c.connections_stay_sound.ensures.steps n w e c.requires.whole.sound (subst (IsEvent n) c.in-Fill.is c.requires.event) in
    let filled = c.in_ok-text-in-Fill.ensures in
    subst (λ text. IsSound n (emits w c.in-Fill.c text).0) (sym (c.deref.ensures.value ∙ filled.items_if_clones_equal (λ y is. is))) sound
