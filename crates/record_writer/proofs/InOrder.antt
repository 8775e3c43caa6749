-- Channels that are taken one after another: what was done on those before one of them, and then on it.
use Rattle.std.proofs.Common.{◌≡◌, ◌≢◌, ◌⊎◌, inl, inr, ℕ, zero, suc, ◌<◌, ◌≤◌, List, refl, sym, subst, ◌∙◌, arith}
use Rattle.subpartition.specs.declared.entry.SendEntry.{SendEntry}
use Rattle.record_writer.specs.declared.channels.Channels.{Channels}
use Rattle.record_writer.specs.Channels.{IsOpenAt, WasStoppedAt}
use Rattle.record_writer.specs.Lists.{IsSameAt, own_of, held_of, laid_of}
use Rattle.record_writer.proofs.Ending.{stopped_before}
use Rattle.record_writer.proofs.Emitting.{laid_kept}
use Rattle.record_writer.proofs.Lending.{said_there}

below_or_not : (c k : ℕ) → (c < k) ⊎ (k ≤ c)
below_or_not c zero = inr (omega arith)
below_or_not zero (suc k) = inl (omega arith)
below_or_not (suc c) (suc k) = elim (below_or_not c k) [
  | inl below ↦ inl (omega (arith, below))
  | inr above ↦ inr (omega (arith, above))
]

module _ (was mid now : Channels) (k : ℕ) (before : (c : ℕ) → k ≤ c → IsSameAt c was mid) (others : (c : ℕ) → c ≢ k → IsSameAt c mid now) where
  module _ (P : List SendEntry → List SendEntry → List ℕ → Type 0) where
    here : P (own_of mid k) (own_of now k) (laid_of mid k) → P (own_of was k) (own_of now k) (laid_of was k)
    here one = let same = before k (omega arith) in
        said_there P (own_of mid k) (own_of now k) (own_of was k) (own_of now k) (laid_of mid k) (laid_of was k) (sym same.own) refl (sym (laid_kept k was mid same)) one

    up_to_here : ((c : ℕ) → c < k → P (own_of was c) (own_of mid c) (laid_of was c)) → P (own_of mid k) (own_of now k) (laid_of mid k) →
        (c : ℕ) → c < suc k → P (own_of was c) (own_of now c) (laid_of was c)
    up_to_here done one c low = elim (below_or_not c k) [
      | inl below ↦ subst (λ es. P (own_of was c) es (laid_of was c)) (sym (others c (λ e. omega (arith, below, e))).own) (done c below)
      | inr above ↦ let is : k ≡ c = omega (arith, low, above) in subst (λ d. P (own_of was d) (own_of now d) (laid_of was d)) is (here one)
    ]

  -- Where it was stopped on channel k, those behind are as they were.
  pub stopped_here : (size many : ℕ) (last : SendEntry) → ((c : ℕ) → c < many → IsOpenAt size (own_of was c)) →
      ((c : ℕ) → c < k → WasStoppedAt size last (own_of was c) (own_of mid c) (laid_of was c)) → WasStoppedAt size last (own_of mid k) (own_of now k) (laid_of mid k) →
      (c : ℕ) → c < many → WasStoppedAt size last (own_of was c) (own_of now c) (laid_of was c)
  stopped_here size many last is_open done one c low = elim (below_or_not c (suc k)) [
    | inl below ↦ up_to_here (WasStoppedAt size last) done one c below
    | inr above ↦
        let same = before c (omega (arith, above)) in let other = others c (λ e. omega (arith, above, e)) in
        stopped_before size last (held_of was c) (own_of was c) (own_of now c) (is_open c low) (other.own ∙ same.own)
  ]
