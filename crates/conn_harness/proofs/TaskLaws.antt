-- Passes of tasks that are dealt out one by one, the last one first.
use Rattle.std.proofs.Common.{◌≡◌, ℕ, zero, suc, ◌<◌, List, [], ◌∷◌, ◌++◌, length, Some, get_or, refl, ap, subst, ◌∙◌, arith, length-append}
use Rattle.std.specs.Prelude.{slice_get}
use Rattle.std.specs.List.{All}
use Rattle.std.proofs.lemmas.Option.{slice_get_within, get_or_from_slice_get}
use Rattle.std.proofs.Math.ListN.{get_or-append}
use Rattle.std.proofs.Math.Seq.{get_or-append_seam}
use Rattle.conn_parts.specs.Shares.{AreOwn, AreNew}
use mathlib.Core.Option.{some}
use lib.ListN.{get_elem?}
use Rattle.turn_cell.specs.declared.cell.TurnCell.{TurnCell}
use Rattle.turn_cell.specs.declared.pass.Pass.{Pass}
use Rattle.turn_cell.specs.Passes.{IsPassOf, number, mine}
use Rattle.segment_pool.specs.declared.pool.Pool.{Pool}
use Rattle.segment_pool.specs.declared.pass.PoolPass.{PoolPass}
use Rattle.segment_pool.specs.Passes.{out}
use Rattle.segment_pool.specs.Pools as pools
use Rattle.conn_harness.specs.Ends.{AreNewTasks}
use Rattle.conn_harness.specs.Groups.{IsPassReady}

module _ {A : Type 0} where
  in_front : (xs ys : List A) (k : ℕ) (x : A) → slice_get xs k ≡ Some x → slice_get (xs ++ ys) k ≡ Some x
  in_front [] ys k x at = absurd (cc)
  in_front (y ∷ xs) ys zero x at = at
  in_front (y ∷ xs) ys (suc k) x at = in_front xs ys k x at

  at_last : (xs : List A) (x : A) → slice_get (xs ++ x ∷ []) (length xs) ≡ Some x
  at_last [] x = refl
  at_last (y ∷ xs) x = at_last xs x

  elem_at : (xs : List A) (k : ℕ) (d : A) → k < length xs → get_elem? xs k ≡ some (get_or xs k d)
  elem_at [] k d within = absurd (omega (arith, within))
  elem_at (x ∷ xs) zero d within = refl
  elem_at (x ∷ xs) (suc k) d within = elem_at xs k d (omega (arith, within))

module _ {S E F : Type 0} (cells : List (TurnCell S E F)) (passes rest : List (Pass S E F)) (last : Pass S E F) (is : passes ≡ rest ++ last ∷ []) (tasks : AreNewTasks cells passes) where
  pub tasks_rest : AreNewTasks cells rest
  tasks_rest = record {
    few = let l = ap length is in let m = length-append rest (last ∷ []) in let n = tasks.few in omega (arith, l, m, n);
    each = λ k cell pass of_cells of_passes. tasks.each k cell pass of_cells (ap (λ l. slice_get l k) is ∙ in_front rest (last ∷ []) k pass of_passes);
  }

  pub task_last : (cell : TurnCell S E F) → slice_get cells (length rest) ≡ Some cell → IsPassOf cell last × (number last ≡ 0) × (mine last ≡ [])
  task_last cell at = tasks.each (length rest) cell last at (ap (λ l. slice_get l (length rest)) is ∙ at_last rest last)

  pub within : length rest < length cells
  within = let l = ap length is in let m = length-append rest (last ∷ []) in let n = tasks.few in omega (arith, l, m, n)

pub all_ready : (pool : Pool) (passes : List PoolPass) → pools.AreFresh pool passes → All (λ p. out p ≡ 0) passes → All (IsPassReady pool) passes
all_ready pool passes fresh none k d less = ((fresh.0.1 k (get_or passes k d) (elem_at passes k d less)).0, none k d less)

-- The passes of tasks that have made no entry.
pub new_tasks : {S E F : Type 0} → (cells : List (TurnCell S E F)) (passes : List (Pass S E F)) → AreOwn 0 cells passes → AreNew passes → AreNewTasks cells passes
new_tasks {S} {E} {F} cells passes own new = record {
  few = let m = own.of_cells.many in omega (arith, m);
  each = λ k cell pass of_cells of_passes.
      let less = slice_get_within passes k pass of_passes in let same = get_or_from_slice_get passes k pass pass of_passes in (
        own.of_cells.each k cell pass of_cells of_passes,
        subst (λ (p : Pass S E F). number p ≡ 0) same (own.numbered k pass less),
        subst (λ (p : Pass S E F). mine p ≡ []) same (new k pass less),
      );
}

-- What holds of all holds of those in front, and of the last.
module _ {X : Type 0} (P : X → Type 0) (all rest : List X) (last : X) (is : all ≡ rest ++ last ∷ []) (each : All P all) where
  pub of_front : All P rest
  of_front k d less =
      let long = length-append rest (last ∷ []) in let whole = ap length is in
      subst P (ap (λ l. get_or l k d) is ∙ get_or-append rest (last ∷ []) d k less) (each k d (omega (arith, long, whole, less)))

  pub of_last : P last
  of_last =
      let long = length-append rest (last ∷ []) in let whole = ap length is in
      subst P (ap (λ l. get_or l (length rest) last) is ∙ get_or-append_seam rest last [] last) (each (length rest) last (omega (arith, long, whole)))
