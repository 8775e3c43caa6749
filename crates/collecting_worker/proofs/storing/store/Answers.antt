use Rattle.std.proofs.Common.{rules, ◌≡◌, sym, subst}
use Rattle.turn_cell.specs.Passes.{number, seen}
use Rattle.outside.specs.Stops.{StopsFor}
use Rattle.collecting_worker.proofs.storing.store.Goals as goal

pub leave_met-requires-clause-state : goal.leave_met-requires-clause-state
leave_met-requires-clause-state g c =
    let pass = c.enter-turn.result.pass.now in
    let entered : c.state-in-Err-Failed.result.now ≡ c.enter-turn.result.state = search rules in
    c.add.ensures (seen pass) (number pass) (subst (λ s. StopsFor s (seen pass)) (sym entered) c.enter-turn.ensures.state.0)

pub leave_met-requires-in-Err-Memory-clause-state : goal.leave_met-requires-in-Err-Memory-clause-state
leave_met-requires-in-Err-Memory-clause-state g c =
    let pass = c.enter-turn.result.pass.now in
    let entered : c.state-in-Err-Memory.result.now ≡ c.enter-turn.result.state = search rules in
    c.add-in-Err-Memory.ensures (seen pass) (number pass) (subst (λ s. StopsFor s (seen pass)) (sym entered) c.enter-turn.ensures.state.0)
