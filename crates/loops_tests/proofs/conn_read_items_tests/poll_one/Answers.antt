use Rattle.std.proofs.Common.{false, refl, ◌∙◌}
use Rattle.input_channel.specs.declared.entry.ReceiveEntry.TheVariants.{Poll}
use Rattle.input_channel.specs.Answers.{gave_of}
use Rattle.turn_cell.specs.History.{entries_of}
use Rattle.turn_cell.specs.Passes.{number, seen}
use Rattle.conn_read_items.proofs.TurnLaws.{stands_after}
use Rattle.loops_tests.proofs.conn_read_items_tests.poll_one.Goals as goal

pub leave_poll-requires-clause-state : goal.leave_poll-requires-clause-state
leave_poll-requires-clause-state g c =
    let pass = c.enter-turn.result.pass.now in let laws = c.channels_stand_for_histories.ensures in
    let old = c.state.result.now in let polled = c.in-Ok.polled in
    stands_after laws.calls laws.entries c.enter-turn.result.state old c.poll.new.self (seen pass) (number pass) 0 (Poll false (gave_of polled))
    c.enter-turn.ensures.state.0 c.state.ensures.value (c.enter-turn.ensures.pass.0.0 ∙ c.requires.1) refl
    (c.answers_tell.ensures.polled old (entries_of (seen pass)) false polled c.in-Ok.ensures.answer) c.in-Ok.ensures.channel
