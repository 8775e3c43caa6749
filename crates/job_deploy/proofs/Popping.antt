-- What is left where nothing was popped.
use Rattle.std.proofs.Common.{◌≡◌, List, [], ◌∷◌, ◌++◌, length, refl, ap, arith}

pub none_rest : {A : Type 0} (old new : List A) → old ≡ new ++ [] → length old ≡ 0 → new ≡ []
none_rest old [] is none = refl
none_rest old (x ∷ xs) is none = absurd (let l = ap length is in omega (arith, l, none))
