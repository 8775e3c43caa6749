use Rattle.std.proofs.Common.{◌++◌, take, refl, sym, ap, subst, ◌∷◌, []}
use Rattle.outside.specs.declared.ring.LinkEntry.TheVariants.{Wrote}
use Rattle.outside.specs.declared.ring.Ring.{Ring}
use Rattle.outside.specs.Rings.{Carries}
use Rattle.outside.proofs.Rings.{wrote}
use Rattle.outside.proofs.ring.Ring.add.Goals as goal

pub returns-clause-wrote : goal.returns-clause-wrote
returns-clause-wrote c history n is carries =
    let bytes = take c.add.result c.args.bytes.now in
    let new : Ring = record { bytes = c.add.new.self; finished = c.args.self.now.finished } in
    subst (λ k. Carries new (history ++ (k, Wrote bytes) ∷ [])) (sym is)
    (wrote c.args.self.now new bytes history c.add.ensures.added refl carries)
