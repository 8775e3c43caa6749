use Rattle.std.proofs.Common.{[], ap, ◌∙◌}
use Rattle.turn_cell.specs.Passes.{number, seen}
use Rattle.turn_cell.specs.History.{entries_of}
use Rattle.input_channel.specs.declared.arrival.ArrivalKind.TheVariants as kinds
use Rattle.input_channel.specs.Legal.{may_receive}
use Rattle.flow_defs.specs.declared.parcel.Parcel.TheVariants as parcels
use Rattle.input_channel.specs.declared.entry.ReceiveEntry.TheVariants.{Push}
use Rattle.loops_tests.proofs.ReceiveEntries.{entry_stands}
use Rattle.loops_tests.proofs.conn_send_control_tests.end_one.Goals as goal

pub leave_end-requires-clause-state : goal.leave_end-requires-clause-state
leave_end-requires-clause-state g c =
    let pass = c.enter-turn.result.pass.now in let laws = c.channels_stand_for_histories.ensures in
    entry_stands laws.calls laws.entries c.enter-turn.result.state c.state.result.now c.accept.new.self (seen pass) (number pass) (Push parcels.End 0) c.enter-turn.ensures.state.0 c.state.ensures.value
    (ap (λ n. may_receive n (Push parcels.End 0)) (c.enter-turn.ensures.pass.0.0 ∙ c.requires.1))
    (c.answers_tell.ensures.accepted c.state.result.now (entries_of (seen pass)) (record { sequence = 0; backlog = 0; what = kinds.End }) [] c.in-Ok.ensures.accepted.0) c.in-Ok.ensures.accepted.1
