-- A list of one, of which the last is taken out.
use Rattle.std.proofs.Common.{◌≡◌, List, [], ◌∷◌, ◌++◌, length, ap, arith, length-append}
use mathlib.Core.Option.{some}
use lib.ListN.{get_elem?}

module _ {A : Type 0} where
  pub only_one : (xs rest : List A) (a : A) → xs ≡ rest ++ a ∷ [] → length xs ≡ 1 → get_elem? xs 0 ≡ some a
  only_one xs [] a e l = ap (λ ys. get_elem? ys 0) e
  only_one xs (x ∷ rest) a e l = let m = ap length e in let k = length-append (x ∷ rest) (a ∷ []) in absurd (omega arith)
