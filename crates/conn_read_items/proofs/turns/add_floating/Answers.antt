use Rattle.std.proofs.Common.{◌<◌, refl, ap, ◌∙◌, rules}
use Rattle.input_channel.specs.declared.entry.ReceiveEntry.TheVariants.{Added}
use Rattle.input_channel.specs.Counts.{wants}
use Rattle.input_channel.specs.States.{ChannelState}
use Rattle.turn_cell.specs.Passes.{number, seen}
use Rattle.conn_read_items.proofs.TurnLaws.{stands_after}
use Rattle.conn_read_items.proofs.turns.add_floating.Goals as goal

pub leave-requires-clause-state : goal.leave-requires-clause-state
leave-requires-clause-state g c =
    let pass = c.enter-turn.result.pass.now in let laws = c.channels_stand_for_histories.ensures in
    let old = c.state-2.result.now in
    let wanted : 0 < wants old.room old.counts = search rules in
    let is = c.state-2.ensures.value ∙ c.state.ensures.value in (
      stands_after laws.calls laws.entries c.enter-turn.result.state old c.add_floating.new.self (seen pass) (number pass) 1 Added
          c.enter-turn.ensures.state.0 is (c.enter-turn.ensures.pass.0.0 ∙ c.requires.reader) refl wanted c.add_floating.ensures,
      ap (λ (s : ChannelState). s.size) c.add_floating.ensures ∙ ap (λ (s : ChannelState). s.size) is ∙ c.enter-turn.ensures.state.1,
    )
