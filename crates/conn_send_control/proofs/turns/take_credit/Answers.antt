use Rattle.std.proofs.Common.{rules, ◌≡◌, [], ◌∷◌, ◌++◌, true, sym, ap, subst, ◌∙◌}
use Rattle.turn_cell.specs.History.{StartsWith}
use Rattle.turn_cell.specs.Passes.{number, seen, mine}
use Rattle.input_channel.specs.declared.entry.ReceiveEntry.TheVariants.{Credit}
use Rattle.input_channel.specs.States.{ChannelStandsFor}
use Rattle.conn_send_control.specs.Taking.{Took, HasSeenEnd}
use Rattle.conn_send_control.proofs.Takings.{credit_stands, took_credit, saw_more, end_told}
use Rattle.conn_send_control.proofs.turns.take_credit.Goals as goal

pub leave_credit-requires-clause-state : goal.leave_credit-requires-clause-state
leave_credit-requires-clause-state g c =
    let pass = c.enter-turn.result.pass.now in
    let entered : c.state-2.result.now ≡ c.enter-turn.result.state = search rules in
    let law = c.channels_stand_for_histories.ensures in
    credit_stands law.calls law.entries c.state-2.result.now c.take_credit-credit.new.self (seen pass) (number pass) c.take_credit-credit.result
    (subst (λ s. ChannelStandsFor s (seen pass)) (sym entered) c.enter-turn.ensures.state.0) (c.enter-turn.ensures.pass.0.0 ∙ c.requires.writer) c.take_credit-credit.ensures.told c.take_credit-credit.ensures.channel

pub returns-clause-took : goal.returns-clause-took
returns-clause-took g c =
    let told : Took c.take_credit-credit.result 0 (mine c.args.pass.now) (mine c.leave_credit.new.turn.1.0) =
    took_credit _ _ _ (c.leave_credit.ensures.entered.2 ∙ ap (λ es. es ++ Credit c.take_credit-credit.result ∷ []) c.enter-turn.ensures.pass.0.1) in
    search (rules, told)

pub returns-clause-seen : goal.returns-clause-seen
returns-clause-seen g c =
    let told : StartsWith (seen c.leave_credit.new.turn.1.0) (seen c.args.pass.now) = saw_more _ _ _ _ c.enter-turn.ensures.seen c.leave_credit.ensures.entered.1 in
    search (rules, told)

pub returns-clause-ended : goal.returns-clause-ended
returns-clause-ended g c =
    let pass = c.enter-turn.result.pass.now in
    let entered : c.state.result.now ≡ c.enter-turn.result.state = search rules in
    let told : c.ended-ended.result ≡ true → HasSeenEnd (seen c.leave_credit.new.turn.1.0) =
    end_told c.state.result.now (seen pass) _ c.ended-ended.result (subst (λ s. ChannelStandsFor s (seen pass)) (sym entered) c.enter-turn.ensures.state.0) c.ended-ended.ensures (_, c.leave_credit.ensures.entered.1) in
    search (rules, told)
