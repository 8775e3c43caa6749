use Rattle.std.proofs.Common.{refl, ◌∙◌}
use Rattle.input_channel.specs.declared.entry.ReceiveEntry.TheVariants.{Backlog}
use Rattle.turn_cell.specs.Passes.{number, seen}
use Rattle.conn_read_items.proofs.TurnLaws.{stands_after}
use Rattle.conn_read_items.proofs.turns.obey_backlog.Goals as goal

pub leave_backlog-requires-clause-state : goal.leave_backlog-requires-clause-state
leave_backlog-requires-clause-state g c =
    let pass = c.enter-turn.result.pass.now in let laws = c.channels_stand_for_histories.ensures in
    stands_after laws.calls laws.entries c.enter-turn.result.state c.state.result.now c.state-2.result.now (seen pass) (number pass) 1 (Backlog c.args.n)
    c.enter-turn.ensures.state.0 c.state.ensures.value (c.enter-turn.ensures.pass.0.0 ∙ c.requires.reader) refl tt (c.state-2.ensures.value ∙ c.on_backlog.ensures)
