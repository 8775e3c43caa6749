use Rattle.std.proofs.Common.{rules, ◌≡◌, sym, ap, subst, ◌∙◌}
use Rattle.turn_cell.specs.Passes.{seen}
use Rattle.reader_state.specs.Ledgers.{Ledger}
use Rattle.reader_state.specs.Settling.{first_overdue}
use Rattle.reader_state.specs.Turning.{channels_in, ledger_after, LookedForOverdue}
use Rattle.reader_state.proofs.Standing.{ledger_of}
use Rattle.reader_state.proofs.Overdue.{looked}
use Rattle.reader_state.proofs.turns.look_for_overdue.Goals as goal

pub returns-clause-looked : goal.returns-clause-looked
returns-clause-looked g c =
    let told = c.enter-turn.ensures in let channels = channels_in c.args.cell.now in let after = c.leave_as_is.new.self.1.0 in
    let is : c.state.result.now ≡ ledger_after channels (seen after) =
    c.state.ensures.value ∙ ledger_of c.args.cell.now c.enter-turn.result.cell.now c.enter-turn.result.state (seen c.enter-turn.result.pass.now) told.state told.turn.1 ∙ ap (ledger_after channels) (sym c.leave_as_is.ensures.rested.1) in
    let answers : LookedForOverdue channels after c.answer.result =
    subst (LookedForOverdue channels after) (sym c.answer.ensures) (looked channels after c.overdue-overdue.result (c.overdue-overdue.ensures ∙ ap (λ (l : Ledger). first_overdue l.early) is)) in
    search (rules, answers)
