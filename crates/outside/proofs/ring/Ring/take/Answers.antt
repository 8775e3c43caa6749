use Rattle.std.proofs.Common.{◌++◌, take, drop, refl, sym, ap, subst, ◌∷◌, [], ◌∙◌, take-append-drop}
use Rattle.outside.specs.declared.ring.LinkEntry.TheVariants.{Read}
use Rattle.outside.specs.declared.ring.Ring.{Ring}
use Rattle.outside.specs.Rings.{Carries}
use Rattle.outside.proofs.Rings.{was_read, taken_front}
use Rattle.outside.proofs.ring.Ring.take.Goals as goal

pub returns-clause-read : goal.returns-clause-read
returns-clause-read c history n is carries =
    let items = c.args.self.now.bytes in let count = c.take.result in
    let front = taken_front count c.args.room.now items c.take.new.room c.take.ensures.count c.take.ensures.moved in
    let new : Ring = record { bytes = c.take.new.self; finished = c.args.self.now.finished } in
    subst (λ k. Carries new (history ++ (k, Read (take count c.take.new.room)) ∷ [])) (sym is)
    (was_read c.args.self.now new (take count c.take.new.room) history
    (sym (take-append-drop count items) ∙ ap (λ l. l ++ drop count items) (sym front) ∙ ap (λ b. take count c.take.new.room ++ b) (sym c.take.ensures.left)) refl carries)
