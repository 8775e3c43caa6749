-- Cells that stand alone, each with one pass.
use Rattle.std.proofs.Common.{◌≡◌, ℕ, zero, suc, [], ◌∷◌, refl, subst, arith}
use Rattle.std.proofs.lemmas.Option.{same_Some}
use Rattle.std.specs.Prelude.{slice_get, Some, All}
use Rattle.turn_cell.specs.declared.cell.TurnCell.{TurnCell}
use Rattle.turn_cell.specs.declared.pass.Pass.{Pass}
use Rattle.turn_cell.specs.Passes.{IsPassOf, number}
use Rattle.conn_parts.specs.Shares.{AreOf, AreOwn}

-- One item has what each of the list has.
pub all_one : {X : Type 0} (P : X → Type 0) (x : X) → P x → All P (x ∷ [])
all_one P x is zero d within = is
all_one P x is (suc k) d within = absurd (omega arith)

module _ {S E F : Type 0} where
  pub of_one : (cell : TurnCell S E F) (pass : Pass S E F) → IsPassOf cell pass → AreOf (cell ∷ []) (pass ∷ [])
  of_one cell pass is = record {
    many = refl;
    each = λ k. each_one k;
  }
    where
      each_one : (k : ℕ) (c : TurnCell S E F) (p : Pass S E F) → slice_get (cell ∷ []) k ≡ Some c → slice_get (pass ∷ []) k ≡ Some p → IsPassOf c p
      each_one zero c p at_c at_p = subst (λ (d : TurnCell S E F). IsPassOf d p) (same_Some cell c at_c) (subst (IsPassOf cell) (same_Some pass p at_p) is)
      each_one (suc k) c p at_c at_p = absurd (cc)

  pub own_one : (n : ℕ) (cell : TurnCell S E F) (pass : Pass S E F) → IsPassOf cell pass → number pass ≡ n → AreOwn n (cell ∷ []) (pass ∷ [])
  own_one n cell pass is numbered = record { of_cells = of_one cell pass is; numbered = all_one (λ (p : Pass S E F). number p ≡ n) pass numbered }
