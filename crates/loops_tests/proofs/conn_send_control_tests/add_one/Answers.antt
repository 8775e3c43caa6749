use Rattle.std.proofs.Common.{rules, arith, ◌≡◌, ◌<◌, ap, ◌∙◌}
use Rattle.turn_cell.specs.Passes.{number, seen}
use Rattle.input_channel.specs.Counts.{wants}
use Rattle.input_channel.specs.Legal.{may_receive}
use Rattle.input_channel.specs.States.{ChannelState}
use Rattle.input_channel.specs.declared.entry.ReceiveEntry.TheVariants.{Added}
use Rattle.loops_tests.proofs.ReceiveEntries.{entry_stands}
use Rattle.loops_tests.proofs.conn_send_control_tests.add_one.Goals as goal

pub leave-requires-clause-state : goal.leave-requires-clause-state
leave-requires-clause-state g c =
    let pass = c.enter-turn.result.pass.now in let laws = c.channels_stand_for_histories.ensures in
    let entered : c.state-2.result.now ≡ c.enter-turn.result.state = search rules in
    let wanted : 0 < wants c.state-2.result.now.room c.state-2.result.now.counts = search (rules, arith) in (
      entry_stands laws.calls laws.entries c.enter-turn.result.state c.state-2.result.now c.add_floating.new.self (seen pass) (number pass) Added c.enter-turn.ensures.state.0 entered
          (ap (λ n. may_receive n Added) (c.enter-turn.ensures.pass.0.0 ∙ c.requires.pass.1)) wanted c.add_floating.ensures,
      ap (λ (s : ChannelState). s.size) c.add_floating.ensures ∙ ap (λ (s : ChannelState). s.size) entered ∙ c.enter-turn.ensures.state.1,
    )
