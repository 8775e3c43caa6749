use Rattle.std.proofs.Common.{rules, arith, ◌≡◌, ◌<◌, [], ◌∷◌, ◌++◌, sym, ap, subst, ◌∙◌}
use Rattle.turn_cell.specs.History.{StartsWith}
use Rattle.turn_cell.specs.Passes.{number, seen, mine}
use Rattle.input_channel.specs.declared.entry.ReceiveEntry.TheVariants.{Resume}
use Rattle.input_channel.specs.States.{ChannelStandsFor}
use Rattle.conn_send_control.specs.Taking.{Took}
use Rattle.conn_send_control.proofs.Takings.{resume_stands, took_resumption, saw_more}
use Rattle.conn_send_control.proofs.turns.take_resumption.Goals as goal

pub leave_resume-requires-clause-state : goal.leave_resume-requires-clause-state
leave_resume-requires-clause-state g c =
    let pass = c.enter-turn.result.pass.now in
    let entered : c.state.result.now ≡ c.enter-turn.result.state = search rules in
    let law = c.channels_stand_for_histories.ensures in
    let asked : 0 < c.state.result.now.asked = search (rules, arith) in
    resume_stands law.calls law.entries c.state.result.now c.take_resume.new.self (seen pass) (number pass)
    (subst (λ s. ChannelStandsFor s (seen pass)) (sym entered) c.enter-turn.ensures.state.0) (c.enter-turn.ensures.pass.0.0 ∙ c.requires.writer) asked c.take_resume.ensures.channel

pub returns-clause-took : goal.returns-clause-took
returns-clause-took g c =
    let told : Took 0 1 (mine c.args.pass.now) (mine c.leave_resume.new.turn.1.0) =
    took_resumption _ _ (c.leave_resume.ensures.entered.2 ∙ ap (λ es. es ++ Resume ∷ []) c.enter-turn.ensures.pass.0.1) in
    search (rules, told)

pub returns-clause-seen : goal.returns-clause-seen
returns-clause-seen g c =
    let told : StartsWith (seen c.leave_resume.new.turn.1.0) (seen c.args.pass.now) = saw_more _ _ _ _ c.enter-turn.ensures.seen c.leave_resume.ensures.entered.1 in
    search (rules, told)
