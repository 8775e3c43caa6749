use Rattle.std.proofs.Common.{rules, ◌≡◌, sym, subst, ◌∙◌}
use Rattle.turn_cell.specs.Passes.{number, seen}
use Rattle.outside.specs.Rings.{Carries}
use Rattle.outside.proofs.link_turns.try_write.Goals as goal

pub leave_wrote-requires-clause-state : goal.leave_wrote-requires-clause-state
leave_wrote-requires-clause-state g c =
    let pass = c.enter-turn.result.pass.now in
    let entered : c.state-2.result.now ≡ c.enter-turn.result.state = search rules in
    c.add-count.ensures.wrote (seen pass) (number pass) (c.enter-turn.ensures.pass.0.0 ∙ c.requires.pass.1)
    (subst (λ ring. Carries ring (seen pass)) (sym entered) c.enter-turn.ensures.state.0)
