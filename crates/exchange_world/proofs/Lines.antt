-- The line of an inbox: what waits in it is the queue, from the first on.
use Rattle.std.proofs.Common.{◌≡◌, Bool, true, false, ◌&&◌, cond, List, [], ◌∷◌, ◌++◌, refl, ap, ◌∙◌}
use Rattle.flow_defs.specs.declared.parcel.Parcel.{Parcel}
use Rattle.input_channel.specs.Inboxes.{Arrived, WasPolled, Waits, waiting, due, is_barrier, poll_due, poll_leaves}
use Rattle.input_channel.specs.States.{starts_waiting, from_waiting, line_leaves}
use Rattle.input_channel.proofs.InboxLaws.{waiting-append}
use Rattle.input_channel.proofs.LineLaws.{waiting-line_leaves}

-- ---- something arrives

pub waiting-snoc : (xs : List Arrived) (ps : List Parcel) (p : Parcel) → waiting xs ≡ ps → waiting (xs ++ Waits p ∷ []) ≡ ps ++ p ∷ []
waiting-snoc xs ps p is = waiting-append xs (Waits p ∷ []) ∙ ap (λ qs. qs ++ p ∷ []) is

pub first-snoc : (xs : List Arrived) (p : Parcel) → starts_waiting xs ≡ true → starts_waiting (xs ++ Waits p ∷ []) ≡ true
first-snoc [] p first = refl
first-snoc (WasPolled q ∷ xs) p first = first
first-snoc (Waits q ∷ xs) p first = refl

-- ---- something is polled

first-from : (xs : List Arrived) → starts_waiting (from_waiting xs) ≡ true
first-from [] = refl
first-from (WasPolled p ∷ xs) = first-from xs
first-from (Waits p ∷ xs) = refl

pub waiting-leaves : (hold : Bool) (xs : List Arrived) (ps : List Parcel) → waiting xs ≡ ps → waiting (line_leaves hold xs) ≡ poll_leaves hold ps
waiting-leaves hold xs ps is = waiting-line_leaves hold xs ∙ ap (poll_leaves hold) is

pub first-leaves : (hold : Bool) (xs : List Arrived) → starts_waiting xs ≡ true → starts_waiting (line_leaves hold xs) ≡ true
first-leaves hold xs first =
    elim (hold && is_barrier (due (waiting xs))) as (λ b. starts_waiting (cond b xs (from_waiting (poll_due xs))) ≡ true) [
      | true ↦ first
      | false ↦ first-from (poll_due xs)
    ]
