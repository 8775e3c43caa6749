use Rattle.std.proofs.Common.{refl, ◌∙◌}
use Rattle.turn_cell.specs.Passes.{number, seen}
use Rattle.input_channel.specs.declared.entry.ReceiveEntry.TheVariants.{Credit}
use Rattle.conn_read_items.proofs.TurnLaws.{stands_after}
use Rattle.loops_tests.proofs.conn_read_items_tests.take_credit.Goals as goal

pub leave_credit-requires-clause-state : goal.leave_credit-requires-clause-state
leave_credit-requires-clause-state g c =
    let pass = c.enter-turn.result.pass.now in let laws = c.channels_stand_for_histories.ensures in
    stands_after laws.calls laws.entries c.enter-turn.result.state c.state.result.now c.take_credit-credit.new.self (seen pass) (number pass) 2 (Credit c.take_credit-credit.result)
    c.enter-turn.ensures.state.0 c.state.ensures.value (c.enter-turn.ensures.pass.0.0 ∙ c.requires.1) refl c.take_credit-credit.ensures.told c.take_credit-credit.ensures.channel
