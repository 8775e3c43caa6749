-- What another stored image makes of a history, and whose the entries are.
use Rattle.std.proofs.Common.{◌≡◌, ◌<◌, ℕ, zero, suc, List, [], ◌∷◌, ◌++◌, Some, None, refl, sym, ap, ◌∙◌, subst, ◌⊎◌, inl, inr, arith}
use Rattle.std.proofs.Math.Dec.{eqb-suc-zero}
use Rattle.turn_cell.specs.History.{by, entries_of, IsHistory}
use Rattle.outside.specs.declared.last_image.Stored.{Stored}
use Rattle.outside.specs.declared.last_image.LastImage.{LastImage}
use Rattle.outside.specs.LastImages.{CollectorStoresAll, OthersStoreNothing, KeepsLast, MayStore}
use Rattle.outside.proofs.Lasts.{last_mapped_at_end}

-- an entry of a history, or the one behind it
in_or_behind : (history : List (ℕ × Stored)) (x : ℕ × Stored) (before after : List (ℕ × Stored)) (e : ℕ × Stored) → history ++ x ∷ [] ≡ before ++ e ∷ after →
    (e ≡ x) ⊎ ((more : List (ℕ × Stored)) × (history ≡ before ++ e ∷ more))
in_or_behind [] x [] after e is = inl (cc)
in_or_behind [] x (b ∷ []) after e is = absurd (cc)
in_or_behind [] x (b ∷ c ∷ before) after e is = absurd (cc)
in_or_behind (y ∷ history) x [] after e is = let same : y ≡ e = cc in inr (history, ap (λ z. z ∷ history) same)
in_or_behind (y ∷ history) x (b ∷ before) after e is =
    let head : y ≡ b = cc in
    let tail : history ++ x ∷ [] ≡ before ++ e ∷ after = cc in
    elim (in_or_behind history x before after e tail) [
      | inl same ↦ inl same
      | inr rest ↦ inr (rest.0, ap (λ z. z ∷ history) head ∙ ap (λ z. b ∷ z) rest.1)
    ]

none_behind : (before after : List (ℕ × Stored)) (e : ℕ × Stored) → [] ≡ before ++ e ∷ after → ⊥
none_behind [] after e is = cc
none_behind (b ∷ before) after e is = cc

legal_none : IsHistory MayStore []
legal_none before after e is = absurd (none_behind before after e is)

legal_more : (history : List (ℕ × Stored)) (x : ℕ × Stored) → IsHistory MayStore history → x.0 ≡ 0 → IsHistory MayStore (history ++ x ∷ [])
legal_more history x legal may before after e is =
    elim (in_or_behind history x before after e is) [
      | inl same ↦ ap (λ (y : ℕ × Stored). y.0) same ∙ may
      | inr rest ↦ legal before rest.0 e rest.1
    ]

legal_rest : (x : ℕ × Stored) (rest : List (ℕ × Stored)) → IsHistory MayStore (x ∷ rest) → IsHistory MayStore rest
legal_rest x rest legal before after e is = legal (x ∷ before) after e (ap (λ l. x ∷ l) is)

pub keeps_none : (state : LastImage) → state ≡ record { stored = None } → KeepsLast state []
keeps_none state is = record { last = ap (λ s. s.stored) is; legal = legal_none }

pub keeps_stored : (old new : LastImage) (history : List (ℕ × Stored)) (n : ℕ) (stored : Stored) → new.stored ≡ Some stored → n ≡ 0 → KeepsLast old history → KeepsLast new (history ++ (n, stored) ∷ [])
keeps_stored old new history n stored is collector keeps = record {
  last = is ∙ sym (last_mapped_at_end (λ (e : ℕ × Stored). e.1) _ history (n, stored));
  legal = legal_more history (n, stored) keeps.legal collector;
}

pub collected : CollectorStoresAll
collected [] legal = refl
collected ((n, stored) ∷ rest) legal =
    let is : n ≡ 0 = legal [] rest (n, stored) refl in
    let more = collected rest (legal_rest (n, stored) rest legal) in
    rw is (ap (λ l. stored ∷ l) more)

pub others : OthersStoreNothing
others [] number legal above = refl
others ((n, stored) ∷ rest) zero legal above = absurd (omega arith)
others ((n, stored) ∷ rest) (suc k) legal above =
    let is : n ≡ 0 = legal [] rest (n, stored) refl in
    rw (is, eqb-suc-zero k) (others rest (suc k) (legal_rest (n, stored) rest legal) above)
