use Rattle.std.proofs.Common.{rules, ◌≡◌, ◌∷◌, [], ◌++◌, take, sym, subst, ◌∙◌}
use Rattle.turn_cell.specs.Passes.{number, seen}
use Rattle.outside.specs.declared.ring.LinkEntry.TheVariants.{Read}
use Rattle.outside.specs.Rings.{Carries, IsFront}
use Rattle.outside.proofs.Rings.{front_of}
use Rattle.outside.proofs.link_turns.try_read.Goals as goal

pub leave_read-requires-clause-state : goal.leave_read-requires-clause-state
leave_read-requires-clause-state g c =
    let pass = c.enter-turn.result.pass.now in
    let entered : c.state-2.result.now ≡ c.enter-turn.result.state = search rules in
    c.take-count.ensures.read (seen pass) (number pass) (c.enter-turn.ensures.pass.0.0 ∙ c.requires.pass.1)
    (subst (λ ring. Carries ring (seen pass)) (sym entered) c.enter-turn.ensures.state.0)

pub returns-clause-front : goal.returns-clause-front
returns-clause-front g c =
    let pass = c.enter-turn.result.pass.now in
    let entered : c.state-2.result.now ≡ c.enter-turn.result.state = search rules in
    let carries = c.take-count.ensures.read (seen pass) (number pass) (c.enter-turn.ensures.pass.0.0 ∙ c.requires.pass.1)
    (subst (λ ring. Carries ring (seen pass)) (sym entered) c.enter-turn.ensures.state.0) in
    let told : IsFront (seen c.leave_read.new.turn.1.0) = subst IsFront (sym c.leave_read.ensures.entered.1)
    (front_of c.take-count.new.self (seen pass ++ (number pass, Read (take c.take-count.result c.take-count.new.room)) ∷ []) carries) in
    search (rules, told)
