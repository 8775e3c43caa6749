use Rattle.std.proofs.Common.{◌≡◌, false, true≢false, refl, sym, ap, ◌∙◌}
use Rattle.turn_cell.specs.History.{by, entries_of}
use Rattle.turn_cell.specs.Passes.{mine, number, seen}
use Rattle.input_channel.specs.declared.entry.ReceiveEntry.TheVariants.{Poll}
use Rattle.input_channel.specs.Answers.{gave_of}
use Rattle.input_channel.specs.Legal.{open_save}
use Rattle.input_channel.specs.States.{ChannelState}
use Rattle.input_channel.proofs.PassLaws.{none_saving}
use Rattle.conn_harness.proofs.Channels.{stands_after}
use Rattle.conn_harness.proofs.inlet.poll_in_turn.Goals as goal

pub leave_polled-requires-clause-state : goal.leave_polled-requires-clause-state
leave_polled-requires-clause-state g c =
    let pass = c.enter-turn.result.pass.now in let laws = c.channels_stand_for_histories.ensures in let old = c.state.result.now in
    stands_after laws.calls laws.entries c.enter-turn.result.state old c.poll.new.self (seen pass) (number pass) 0 (Poll false (gave_of c.in-Ok.polled))
    c.enter-turn.ensures.state.0 c.state.ensures.value (c.enter-turn.ensures.pass.0.0 ∙ c.requires.pass.1) refl
    (c.answers_tell.ensures.polled old (entries_of (seen pass)) false c.in-Ok.polled c.in-Ok.ensures.answer) c.in-Ok.ensures.channel

pub unreachable-requires : goal.unreachable-requires
unreachable-requires g c =
    let pass = c.enter-turn.result.pass.now in
    let own : by 0 (seen pass) ≡ mine c.args.pass.now = ap (λ n. by n (seen pass)) (sym (c.enter-turn.ensures.pass.0.0 ∙ c.requires.pass.1)) ∙ c.enter-turn.ensures.turn.0.0.5 ∙ c.enter-turn.ensures.pass.0.1 in
    let none = ap (λ (channel : ChannelState). channel.save) c.state.ensures.value ∙ none_saving c.enter-turn.result.state (seen pass) c.enter-turn.ensures.state.0 (ap open_save own ∙ c.requires.closed) in
    true≢false (sym (c.in_default.ensures.answered none))
