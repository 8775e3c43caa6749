-- Two channels, their cells and their passes, as tests have them.
use Rattle.std.proofs.Common.{◌≡◌, ◌≢◌, ℕ, zero, suc, [], ◌∷◌, refl, subst, arith}
use Rattle.std.specs.Prelude.{slice_get, Some}
use Rattle.std.proofs.lemmas.List.Elements.{All-nil, All-cons}
use Rattle.std.proofs.lemmas.List.Kept.{AllPairs-cons}
use Rattle.std.proofs.lemmas.Option.{same_Some}
use Rattle.turn_cell.specs.declared.cell.TurnCell.{TurnCell}
use Rattle.turn_cell.specs.declared.pass.Pass.{Pass}
use Rattle.turn_cell.specs.Passes.{IsPassOf, number}
use Rattle.flow_defs.specs.declared.task.ChannelId.{ChannelId}
use Rattle.credit_reader.specs.Senders.{AreDistinct}
use Rattle.conn_parts.specs.Shares.{AreOwn}

module _ {S E F : Type 0} (n : ℕ) (a b : TurnCell S E F) (p q : Pass S E F) where
  each_of_two : IsPassOf a p → IsPassOf b q → (k : ℕ) (cell : TurnCell S E F) (pass : Pass S E F) → slice_get (a ∷ b ∷ []) k ≡ Some cell → slice_get (p ∷ q ∷ []) k ≡ Some pass → IsPassOf cell pass
  each_of_two one two zero cell pass is_cell is_pass = subst (λ c. IsPassOf c pass) (same_Some a cell is_cell) (subst (IsPassOf a) (same_Some p pass is_pass) one)
  each_of_two one two (suc zero) cell pass is_cell is_pass = subst (λ c. IsPassOf c pass) (same_Some b cell is_cell) (subst (IsPassOf b) (same_Some q pass is_pass) two)
  each_of_two one two (suc (suc k)) cell pass is_cell is_pass = absurd (cc)

  pub two_own : IsPassOf a p → number p ≡ n → IsPassOf b q → number q ≡ n → AreOwn n (a ∷ b ∷ []) (p ∷ q ∷ [])
  two_own one one_is two two_is = record {
    of_cells = record { many = refl; each = each_of_two one two };
    numbered = let P : Pass S E F → Type 0 = λ pass. number pass ≡ n in All-cons P p (q ∷ []) one_is (All-cons P q [] two_is (All-nil P));
  }

pub two_distinct : (c d : ChannelId) → c ≢ d → AreDistinct (c ∷ d ∷ [])
two_distinct c d other =
    let R : ChannelId → ChannelId → Type 0 = λ x y. x ≢ y in
    AllPairs-cons R c (d ∷ []) (All-cons (R c) d [] other (All-nil (R c))) (AllPairs-cons R d [] (All-nil (R d)) (λ i j x less within. absurd (omega arith)))
