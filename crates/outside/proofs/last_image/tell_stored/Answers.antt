use Rattle.std.proofs.Common.{rules, ◌≡◌, [], ◌∷◌, sym, subst}
use Rattle.turn_cell.specs.Passes.{number, seen}
use Rattle.outside.specs.LastImages.{KeepsLast}
use Rattle.outside.proofs.Stops.{begins_still}
use Rattle.outside.proofs.last_image.tell_stored.Goals as goal

pub leave_stored-requires-clause-state : goal.leave_stored-requires-clause-state
leave_stored-requires-clause-state g c =
    let pass = c.enter-turn.result.pass.now in
    let entered : c.state.result.now ≡ c.enter-turn.result.state = search rules in
    let collector : number pass ≡ 0 = search rules in
    c.store.ensures (seen pass) (number pass) collector (subst (λ s. KeepsLast s (seen pass)) (sym entered) c.enter-turn.ensures.state.0)

pub returns-clause-seen : goal.returns-clause-seen
returns-clause-seen g c =
    let pass = c.enter-turn.result.pass.now in
    let begins = begins_still (seen c.args.pass.now) (seen pass) (seen c.leave_stored.new.turn.1.0) ((number pass, c.args.stored) ∷ []) c.enter-turn.ensures.seen c.leave_stored.ensures.entered.1 in
    search (rules, begins)
