-- What a task has seen of the images that were stored.
use Rattle.std.proofs.Common.{◌≡◌, ◌+◌, ◌-◌, ℕ, zero, suc, List, [], ◌∷◌, Option, Some, None, ◌⊎◌, inl, inr, sym, ap, subst, ◌∙◌, arith}
use Rattle.std.specs.Prelude.{Bool, Contains}
use Rattle.std.specs.List.{last_or}
use Rattle.std.proofs.lemmas.List.Elements.{Contains-append_left, Contains-append_right}
use Rattle.std.proofs.lemmas.Option.{same_Some}
use Rattle.turn_cell.specs.History.{entries_of}
use Rattle.turn_cell.proofs.Histories.{entries_of-append}
use Rattle.outside.specs.declared.last_image.Stored.{Stored}
use Rattle.task_output.specs.declared.acks.Acks.{Acks}
use Rattle.task_output.specs.Waiting.{HasSeenStored, HasWaited, SeenIsWaited, WaitedStays}

last_is_there : {X : Type 0} (o : Option X) (xs : List X) (x : X) → last_or o xs ≡ Some x → (o ≡ Some x) ⊎ Contains xs x
last_is_there o [] x is = inl is
last_is_there o (y ∷ xs) x is = elim (last_is_there (Some y) xs x is) [
  | inl here ↦ inr (0, omega arith, same_Some y x here)
  | inr later ↦ inr (Contains-append_right (y ∷ []) xs x later)
]

contained : (history : List (ℕ × Stored)) (stored : Stored) → last_or None (entries_of history) ≡ Some stored → Contains (entries_of history) stored
contained history stored is = elim (last_is_there None (entries_of history) stored is) [ inl none ↦ absurd (cc) | inr there ↦ there ]

pub seen_is_waited : SeenIsWaited
seen_is_waited base history zero all_ended seen = tt
seen_is_waited base history (suc sent) all_ended seen = (seen.stored, contained history seen.stored seen.last, seen.reached)

pub waited_stays : WaitedStays
waited_stays base zero history later starts waited = tt
waited_stays base (suc zero) history later starts waited = tt
waited_stays base (suc (suc before)) history later starts waited = (
  waited.0,
  subst (λ l. Contains l waited.0) (sym (entries_of-append history starts.0) ∙ ap entries_of (sym starts.1)) (Contains-append_left (entries_of history) (entries_of starts.0) waited.0 waited.1),
  waited.2,
)

-- The image before the checkpoint that is acknowledged next.
pub waited_for : (old new : Acks) (k : ℕ) (history : List (ℕ × Stored)) (all_ended : Bool) →
    k ≡ old.base.number + suc old.sent → new.base ≡ old.base → new.sent ≡ old.sent → HasSeenStored history (k - 1) all_ended → HasWaited new.base (suc new.sent) history
waited_for old new k history all_ended next base sent has_seen =
    let number = ap (λ (s : Stored). s.number) base in
    let before : k - 1 ≡ new.base.number + new.sent = omega (arith, next, number, sent) in
    seen_is_waited new.base history new.sent all_ended (subst (λ n. HasSeenStored history n all_ended) before has_seen)
