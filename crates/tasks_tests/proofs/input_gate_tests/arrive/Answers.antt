use Rattle.std.proofs.Common.{refl, ◌∙◌}
use Rattle.input_channel.specs.declared.entry.ReceiveEntry.TheVariants.{Push}
use Rattle.input_channel.specs.Answers.{parcel_in}
use Rattle.turn_cell.specs.History.{entries_of}
use Rattle.turn_cell.specs.Passes.{number, seen}
use Rattle.tasks_tests.proofs.TestLaws.{stands_after}
use Rattle.tasks_tests.proofs.input_gate_tests.arrive.Goals as goal

pub leave_push-requires-clause-state : goal.leave_push-requires-clause-state
leave_push-requires-clause-state g c =
    let pass = c.enter-turn.result.pass.now in let laws = c.channels_stand_for_histories.ensures in
    let old = c.state.result.now in let took = c.in-Ok.ensures.accepted in
    stands_after laws.calls laws.entries c.enter-turn.result.state old _ (seen pass) (number pass) 1 (Push (parcel_in c.args.what c.args.bytes.now) 2)
    c.enter-turn.ensures.state.0 c.state.ensures.value (c.enter-turn.ensures.pass.0.0 ∙ c.requires.1) refl
    (c.answers_tell.ensures.accepted old (entries_of (seen pass)) (record { sequence = c.args.sequence; backlog = 2; what = c.args.what }) c.args.bytes.now took.0) took.1
