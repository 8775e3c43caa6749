use Rattle.std.proofs.Common.{rules, ◌≡◌, [], ◌∷◌, ◌++◌, eq-eqb, sym, ap, subst, ◌∙◌}
use Rattle.turn_cell.specs.Passes.{seen, number}
use Rattle.reader_state.specs.declared.entry.ReaderEntry.TheVariants.{Resumed}
use Rattle.reader_state.specs.Ledgers.{Ledger}
use Rattle.reader_state.specs.Settling.{first_overdue}
use Rattle.reader_state.specs.Turning.{channels_in, ledger_after, StandsIn, TookMessage}
use Rattle.reader_state.proofs.Standing.{ledger_of, stands_message}
use Rattle.reader_state.proofs.Overdue.{took_message}
use Rattle.reader_state.proofs.turns.take_resumption.Goals as goal

pub leave_resumed-requires-clause-state : goal.leave_resumed-requires-clause-state
leave_resumed-requires-clause-state g c =
    let told = c.enter-turn.ensures in let pass = c.enter-turn.result.pass.now in let there = c.enter-turn.result.cell.now in
    let stands : StandsIn there (seen pass ++ (number pass, Resumed c.args.channel) ∷ []) c.state-in-Ok.result.now =
    stands_message there c.enter-turn.result.state c.state.result.now c.state-in-Ok.result.now (seen pass) (number pass) (Resumed c.args.channel) told.state c.state.ensures.value
    (eq-eqb (number pass) 1 (told.pass.0.0 ∙ c.requires.pass.1)) c.in-Ok.ensures.0 (c.state-in-Ok.ensures.value ∙ c.in-Ok.ensures.1) in
    stands

pub returns-in-Ok-clause-took : goal.returns-in-Ok-clause-took
returns-in-Ok-clause-took g c =
    let told = c.enter-turn.ensures in let pass = c.enter-turn.result.pass.now in let there = c.enter-turn.result.cell.now in
    let stands : StandsIn there (seen pass ++ (number pass, Resumed c.args.channel) ∷ []) c.state-in-Ok.result.now =
    stands_message there c.enter-turn.result.state c.state.result.now c.state-in-Ok.result.now (seen pass) (number pass) (Resumed c.args.channel) told.state c.state.ensures.value
    (eq-eqb (number pass) 1 (told.pass.0.0 ∙ c.requires.pass.1)) c.in-Ok.ensures.0 (c.state-in-Ok.ensures.value ∙ c.in-Ok.ensures.1) in
    let channels = channels_in c.args.cell.now in let after = c.leave_resumed.new.turn.1.0 in
    let is : c.state-in-Ok.result.now ≡ ledger_after channels (seen after) =
    ledger_of c.args.cell.now there c.state-in-Ok.result.now (seen pass ++ (number pass, Resumed c.args.channel) ∷ []) stands told.turn.1 ∙ ap (ledger_after channels) (sym c.leave_resumed.ensures.entered.1) in
    let answers : TookMessage channels (Resumed c.args.channel) c.args.pass.now after c.answer.result =
    subst (TookMessage channels (Resumed c.args.channel) c.args.pass.now after) (sym c.answer.ensures)
    (took_message channels (Resumed c.args.channel) c.args.pass.now pass after c.overdue-overdue.result told.pass.0 c.leave_resumed.ensures.entered (c.overdue-overdue.ensures ∙ ap (λ (l : Ledger). first_overdue l.early) is)) in
    search (rules, answers)
