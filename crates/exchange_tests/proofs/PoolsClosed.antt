-- Passes of a pool that is closed.
use Rattle.std.proofs.Common.{◌≡◌, ℕ, zero, suc, ◌+◌, List, [], ◌∷◌, All, sym, refl, ap, ◌∙◌, subst, arith}
use mathlib.Core.Option.{some, some-injective, some-ne-none}
use lib.ListN.{get_elem?}
use Rattle.std.specs.List.{sum_by}
use Rattle.std.proofs.lemmas.List.Elements.{All-head, All-tail}
use Rattle.std.proofs.lemmas.List.Sums.{sum_by-cons}
use Rattle.segment_pool.specs.declared.pool.Pool.{Pool}
use Rattle.segment_pool.specs.declared.pass.PoolPass.{PoolPass}
use Rattle.segment_pool.specs.Passes.{number, out}
use Rattle.segment_pool.specs.Pools.{AreAll, IsPassOf, passes_of}
use Rattle.fixtures.proofs.PoolPasses.{IsIdle}

-- what no item has does not add up
module _ {A : Type 0} where
  pub sum_none : (f : A → ℕ) (xs : List A) → All (λ x. f x ≡ 0) xs → sum_by f xs ≡ 0
  sum_none f [] h = refl
  sum_none f (x ∷ xs) h = let a = All-head (λ x. f x ≡ 0) x xs h in let r = sum_none f xs (All-tail (λ x. f x ≡ 0) x xs h) in let c = sum_by-cons f x xs in omega arith

-- two passes with nothing out
module _ (pool : Pool) where
  -- a pass that came back, in its place
  abbrev Back : ℕ → PoolPass → Type 0
  Back k p = IsPassOf pool p × (number p ≡ k)

  at_two : (a b : PoolPass) → Back 0 a → Back 1 b → (k : ℕ) (p : PoolPass) → get_elem? (a ∷ b ∷ []) k ≡ some p → Back k p
  at_two a b pa pb zero p e = subst (Back 0) (some-injective a p e) pa
  at_two a b pa pb (suc zero) p e = subst (Back 1) (some-injective b p e) pb
  at_two a b pa pb (suc (suc k)) p e = absurd (some-ne-none p (sym e))

  pub all_two : (ps : List PoolPass) (a b : PoolPass) → ps ≡ a ∷ b ∷ [] → passes_of pool ≡ 2 → IsIdle pool 0 a → IsIdle pool 1 b → AreAll pool ps
  all_two ps a b e n first second = subst (AreAll pool) (sym e) (sym n, at_two a b (first.0, first.1) (second.0, second.1))

  pub none_lent : (ps : List PoolPass) (a b : PoolPass) → ps ≡ a ∷ b ∷ [] → IsIdle pool 0 a → IsIdle pool 1 b → sum_by out ps ≡ 0
  none_lent ps a b e first second = let none_of_first = first.2 in let none_of_second = second.2 in ap (sum_by out) e ∙ omega arith
