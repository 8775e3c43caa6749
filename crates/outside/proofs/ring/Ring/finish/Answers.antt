use Rattle.std.proofs.Common.{◌++◌, true, refl, sym, subst, ◌∷◌, []}
use Rattle.outside.specs.declared.ring.LinkEntry.TheVariants.{Finished}
use Rattle.outside.specs.declared.ring.Ring.{Ring}
use Rattle.outside.specs.Rings.{Carries}
use Rattle.outside.proofs.Rings.{has_ended}
use Rattle.outside.proofs.ring.Ring.finish.Goals as goal

pub returns : goal.returns
returns c history n is carries =
    let new : Ring = record { bytes = c.args.self.now.bytes; finished = true } in
    subst (λ k. Carries new (history ++ (k, Finished) ∷ [])) (sym is) (has_ended c.args.self.now new history refl refl carries)
