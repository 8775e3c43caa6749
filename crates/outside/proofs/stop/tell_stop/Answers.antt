use Rattle.std.proofs.Common.{rules, ◌≡◌, [], ◌∷◌, sym, subst}
use Rattle.turn_cell.specs.Passes.{number, seen}
use Rattle.outside.specs.declared.stop.StopEntry.TheVariants.{Met}
use Rattle.outside.specs.Stops.{StopsFor}
use Rattle.outside.proofs.Stops.{begins_still}
use Rattle.outside.proofs.stop.tell_stop.Goals as goal

pub leave_met-requires-clause-state : goal.leave_met-requires-clause-state
leave_met-requires-clause-state g c =
    let pass = c.enter-turn.result.pass.now in
    let entered : c.state.result.now ≡ c.enter-turn.result.state = search rules in
    c.add.ensures (seen pass) (number pass) (subst (λ s. StopsFor s (seen pass)) (sym entered) c.enter-turn.ensures.state.0)

pub returns-clause-seen : goal.returns-clause-seen
returns-clause-seen g c =
    let pass = c.enter-turn.result.pass.now in
    let begins = begins_still (seen c.args.pass.now) (seen pass) (seen c.leave_met.new.turn.1.0) ((number pass, Met c.args.cause) ∷ []) c.enter-turn.ensures.seen c.leave_met.ensures.entered.1 in
    search (rules, begins)
