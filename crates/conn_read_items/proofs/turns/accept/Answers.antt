use Rattle.std.proofs.Common.{refl, ap, ◌∙◌}
use Rattle.input_channel.specs.declared.entry.ReceiveEntry.TheVariants.{Push, Shut}
use Rattle.input_channel.specs.Answers.{parcel_in}
use Rattle.input_channel.specs.States.{ChannelState}
use Rattle.turn_cell.specs.History.{entries_of}
use Rattle.turn_cell.specs.Passes.{number, seen}
use Rattle.conn_read_items.proofs.TurnLaws.{stands_after}
use Rattle.conn_read_items.proofs.turns.accept.Goals as goal

pub leave_push-requires-clause-state : goal.leave_push-requires-clause-state
leave_push-requires-clause-state g c =
    let pass = c.enter-turn.result.pass.now in let laws = c.channels_stand_for_histories.ensures in
    let old = c.state.result.now in let took = c.in-Ok.ensures.accepted in
    stands_after laws.calls laws.entries c.enter-turn.result.state old c.state-in-Ok.result.now (seen pass) (number pass) 1 (Push (parcel_in c.args.a.what c.args.bytes.now) c.args.a.backlog)
    c.enter-turn.ensures.state.0 c.state.ensures.value (c.enter-turn.ensures.pass.0.0 ∙ c.requires.reader) refl
    (c.answers_tell.ensures.accepted old (entries_of (seen pass)) c.args.a c.args.bytes.now took.0) (c.state-in-Ok.ensures.value ∙ took.1)

pub leave-requires-clause-state : goal.leave-requires-clause-state
leave-requires-clause-state g c =
    let pass = c.enter-turn.result.pass.now in let laws = c.channels_stand_for_histories.ensures in
    let old = c.state-in-Err-OverCredit.result.now in
    let is = c.state-in-Err-OverCredit.ensures.value ∙ c.in-Err-OverCredit.ensures.refused.0 ∙ c.state.ensures.value in
    let why = rw c.in-Err-OverCredit.field-0-is at c.in-Err-OverCredit.ensures.refused.1 in
    let spent = ap (λ (s : ChannelState). s.credit) (c.state-in-Err-OverCredit.ensures.value ∙ c.in-Err-OverCredit.ensures.refused.0)
    ∙ c.answers_tell.ensures.spent c.state.result.now c.args.a c.args.bytes.now c.in-Err-OverCredit.received c.in-Err-OverCredit.announced why in (
      stands_after laws.calls laws.entries c.enter-turn.result.state old c.shut.new.self (seen pass) (number pass) 1 Shut
          c.enter-turn.ensures.state.0 is (c.enter-turn.ensures.pass.0.0 ∙ c.requires.reader) refl spent c.shut.ensures,
      ap (λ (s : ChannelState). s.size) c.shut.ensures ∙ ap (λ (s : ChannelState). s.size) is ∙ c.enter-turn.ensures.state.1,
    )
