use Rattle.std.proofs.Common.{rules, ◌≡◌, sym, subst}
use Rattle.turn_cell.specs.Passes.{number, seen}
use Rattle.outside.specs.Stops.{StopsFor}
use Rattle.outside.proofs.stop.tell_stop_if_first.Goals as goal

pub leave_met-requires-clause-state : goal.leave_met-requires-clause-state
leave_met-requires-clause-state g c =
    let pass = c.enter-turn.result.pass.now in
    let entered : c.state-in-None.result.now ≡ c.enter-turn.result.state = search rules in
    c.add.ensures (seen pass) (number pass) (subst (λ s. StopsFor s (seen pass)) (sym entered) c.enter-turn.ensures.state.0)
