-- Flags that were filled with `false`.
use Rattle.std.proofs.Common.{◌≡◌, ℕ, Bool, false, List, [], ◌∷◌, length, refl, sym, ap, ◌∙◌}
use Rattle.std.specs.Prelude.{replicate}
use Rattle.barriers.specs.Alignments.{none_of}

none_given : (flags : List Bool) → none_of flags ≡ replicate (length flags) false
none_given [] = refl
none_given (flag ∷ flags) = ap (λ l. false ∷ l) (none_given flags)

pub none_filled : (flags filled : List Bool) (n : ℕ) → length flags ≡ n → filled ≡ replicate n false → none_of flags ≡ filled
none_filled flags filled n many is = none_given flags ∙ ap (λ m. replicate m false) many ∙ sym is
