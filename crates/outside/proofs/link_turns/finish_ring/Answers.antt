use Rattle.std.proofs.Common.{sym, subst, refl, ◌∙◌}
use Rattle.turn_cell.specs.Passes.{number, seen}
use Rattle.outside.specs.Rings.{Carries}
use Rattle.outside.proofs.link_turns.finish_ring.Goals as goal

pub leave-requires-clause-state : goal.leave-requires-clause-state
leave-requires-clause-state g c =
    let pass = c.enter-turn.result.pass.now in (
      c.finish.ensures (seen pass) (number pass) (c.enter-turn.ensures.pass.0.0 ∙ c.requires.pass.1)
          (subst (λ ring. Carries ring (seen pass)) (sym c.state.ensures.value) c.enter-turn.ensures.state.0),
      refl,
    )
