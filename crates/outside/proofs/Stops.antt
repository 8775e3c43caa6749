-- What another fault makes of a history.
use Rattle.std.proofs.Common.{◌≡◌, ℕ, true, List, [], ◌∷◌, ◌++◌, Some, None, refl, sym, ap, ◌∙◌, append_assoc}
use Rattle.turn_cell.specs.History.{StartsWith}
use Rattle.flow_defs.specs.declared.cause.Cause.{Cause}
use Rattle.outside.specs.declared.stop.StopEntry.{StopEntry}
use Rattle.outside.specs.declared.stop.StopEntry.TheVariants.{Met}
use Rattle.outside.specs.declared.stop.StopState.{StopState}
use Rattle.outside.specs.Stops.{is_fault, first_met, AreFaults, StopsFor}

faults_more : (history : List (ℕ × StopEntry)) (n : ℕ) (cause : Cause) → is_fault cause ≡ true → AreFaults history → AreFaults (history ++ (n, Met cause) ∷ [])
faults_more [] n cause f a = (f, tt)
faults_more ((m, Met other) ∷ history) n cause f a = (a.0, faults_more history n cause f a.1)

first_kept : (history : List (ℕ × StopEntry)) (n : ℕ) (cause met : Cause) → Some met ≡ first_met history → Some met ≡ first_met (history ++ (n, Met cause) ∷ [])
first_kept [] n cause met e = absurd (cc)
first_kept ((m, Met other) ∷ history) n cause met e = e

first_new : (history : List (ℕ × StopEntry)) (n : ℕ) (cause : Cause) → None ≡ first_met history → Some cause ≡ first_met (history ++ (n, Met cause) ∷ [])
first_new [] n cause e = refl
first_new ((m, Met other) ∷ history) n cause e = absurd (cc)

pub stops_kept : (old new : StopState) (history : List (ℕ × StopEntry)) (n : ℕ) (cause met : Cause) → old.met ≡ Some met → new.met ≡ Some met → is_fault cause ≡ true → StopsFor old history → StopsFor new (history ++ (n, Met cause) ∷ [])
stops_kept old new history n cause met was is f s = record {
  first = is ∙ first_kept history n cause met (sym was ∙ s.first);
  faults = faults_more history n cause f s.faults;
}

pub stops_new : (old new : StopState) (history : List (ℕ × StopEntry)) (n : ℕ) (cause : Cause) → old.met ≡ None → new.met ≡ Some cause → is_fault cause ≡ true → StopsFor old history → StopsFor new (history ++ (n, Met cause) ∷ [])
stops_new old new history n cause was is f s = record {
  first = is ∙ first_new history n cause (sym was ∙ s.first);
  faults = faults_more history n cause f s.faults;
}

pub begins_still : {A : Type 0} → (xs ys zs more : List A) → StartsWith ys xs → zs ≡ ys ++ more → StartsWith zs xs
begins_still xs ys zs more s e = (s.0 ++ more, e ∙ ap (λ l. l ++ more) s.1 ∙ append_assoc xs s.0 more)
