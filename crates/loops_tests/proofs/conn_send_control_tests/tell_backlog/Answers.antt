use Rattle.std.proofs.Common.{ap, ◌∙◌}
use Rattle.turn_cell.specs.Passes.{number, seen}
use Rattle.input_channel.specs.Legal.{may_receive}
use Rattle.input_channel.specs.declared.entry.ReceiveEntry.TheVariants.{Backlog}
use Rattle.loops_tests.proofs.ReceiveEntries.{entry_stands}
use Rattle.loops_tests.proofs.conn_send_control_tests.tell_backlog.Goals as goal

pub leave_backlog-requires-clause-state : goal.leave_backlog-requires-clause-state
leave_backlog-requires-clause-state g c =
    let pass = c.enter-turn.result.pass.now in let laws = c.channels_stand_for_histories.ensures in
    entry_stands laws.calls laws.entries c.enter-turn.result.state c.state.result.now c.on_backlog.new.self (seen pass) (number pass) (Backlog 1) c.enter-turn.ensures.state.0 c.state.ensures.value
    (ap (λ n. may_receive n (Backlog 1)) (c.enter-turn.ensures.pass.0.0 ∙ c.requires.1)) tt c.on_backlog.ensures
