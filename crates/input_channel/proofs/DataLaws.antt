-- Which data were polled, in every history of the receiving end, and what waits before a barrier.
use Rattle.std.proofs.Common.{◌≡◌, ℕ, true, false, cond, eqb, List, [], ◌∷◌, ◌++◌, map, Option, refl, sym, ap, ◌∙◌, append_assoc, append-nil, true≢false}
use Rattle.std.specs.Prelude.{⊤, ◌&&◌, ◌==◌, if◌then◌else◌, option_to_list}
use Rattle.flow_defs.specs.declared.parcel.Parcel.{Parcel}
use Rattle.flow_defs.specs.declared.parcel.Parcel.TheVariants.{Data, Barrier, End}
use Rattle.flow_defs.specs.Parcels.{data_of}
use Rattle.flow_defs.specs.Barriers.{data_before}
use Rattle.flow_defs.proofs.ParcelLemmas.{data_of-append}
use Rattle.input_channel.specs.declared.entry.ReceiveEntry.{ReceiveEntry}
use Rattle.input_channel.specs.declared.entry.ReceiveEntry.TheVariants.{Push, Poll}
use Rattle.input_channel.specs.Inboxes.{Arrived, WasPolled, Waits, Inbox, empty_inbox, front_waits, first_parcel, first_barrier, poll_first, poll_barrier, due, poll_due, is_barrier, received_one, received_from, inbox, pushed, waiting, parcel_of, polled_bytes, waiting_before, polled_of, polled_behind}
use Rattle.input_channel.specs.States.{has_polled_data}
use Rattle.input_channel.proofs.InboxLaws.{arrivals_are_pushed}

-- ---- data in order

-- the bytes of the data before barrier k that were polled
abbrev polled_before : ℕ → List Arrived → List ℕ
polled_before k [] = []
polled_before k (WasPolled (Data bytes) ∷ xs) = bytes ++ polled_before k xs
polled_before k (Waits (Data bytes) ∷ xs) = polled_before k xs
polled_before k (WasPolled (Barrier j kind) ∷ xs) = if j == k then [] else polled_before k xs
polled_before k (Waits (Barrier j kind) ∷ xs) = if j == k then [] else polled_before k xs
polled_before k (WasPolled End ∷ xs) = polled_before k xs
polled_before k (Waits End ∷ xs) = polled_before k xs

-- no data behind an arrival that waits were polled
abbrev pub IsInOrder : List Arrived → Type 0
IsInOrder [] = ⊤
IsInOrder (WasPolled p ∷ xs) = IsInOrder xs
IsInOrder (Waits p ∷ xs) = has_polled_data xs ≡ false

-- where no data were polled there are no bytes of such
pub none-polled_of : (xs : List Arrived) → has_polled_data xs ≡ false → polled_of xs ≡ []
none-polled_of [] none = refl
none-polled_of (WasPolled (Data bytes) ∷ xs) none = absurd (true≢false none)
none-polled_of (WasPolled (Barrier j kind) ∷ xs) none = none-polled_of xs none
none-polled_of (WasPolled End ∷ xs) none = none-polled_of xs none
none-polled_of (Waits p ∷ xs) none = none-polled_of xs none

pub none-in_order : (xs : List Arrived) → has_polled_data xs ≡ false → IsInOrder xs
none-in_order [] none = tt
none-in_order (WasPolled (Data bytes) ∷ xs) none = absurd (true≢false none)
none-in_order (WasPolled (Barrier j kind) ∷ xs) none = none-in_order xs none
none-in_order (WasPolled End ∷ xs) none = none-in_order xs none
none-in_order (Waits p ∷ xs) none = none

-- the data of a parcel, if there is one
abbrev data_in : Option Parcel → List ℕ
data_in p = data_of (option_to_list p)

-- polling the first arrival
first-polled_of : (xs : List Arrived) → IsInOrder xs → polled_of (poll_first xs) ≡ polled_of xs ++ data_in (first_parcel (waiting xs))
first-polled_of [] h = refl
first-polled_of (WasPolled (Data bytes) ∷ xs) h = ap (λ z. bytes ++ z) (first-polled_of xs h) ∙ sym (append_assoc bytes (polled_of xs) (data_in (first_parcel (waiting xs))))
first-polled_of (WasPolled (Barrier j kind) ∷ xs) h = first-polled_of xs h
first-polled_of (WasPolled End ∷ xs) h = first-polled_of xs h
first-polled_of (Waits (Data bytes) ∷ xs) h = let none = none-polled_of xs h in ap (λ z. bytes ++ z) none ∙ ap (λ z. z ++ data_of (Data bytes ∷ [])) (sym none)
first-polled_of (Waits (Barrier j kind) ∷ xs) h = sym (append-nil (polled_of xs))
first-polled_of (Waits End ∷ xs) h = sym (append-nil (polled_of xs))

first-in_order : (xs : List Arrived) → IsInOrder xs → IsInOrder (poll_first xs)
first-in_order [] h = tt
first-in_order (WasPolled p ∷ xs) h = first-in_order xs h
first-in_order (Waits p ∷ xs) h = none-in_order xs h

-- polling the first barrier
pub barrier-polled_of : (xs : List Arrived) → polled_of (poll_barrier xs) ≡ polled_of xs
barrier-polled_of [] = refl
barrier-polled_of (WasPolled (Data bytes) ∷ xs) = ap (λ z. bytes ++ z) (barrier-polled_of xs)
barrier-polled_of (WasPolled (Barrier j kind) ∷ xs) = barrier-polled_of xs
barrier-polled_of (WasPolled End ∷ xs) = barrier-polled_of xs
barrier-polled_of (Waits (Data bytes) ∷ xs) = barrier-polled_of xs
barrier-polled_of (Waits (Barrier j kind) ∷ xs) = refl
barrier-polled_of (Waits End ∷ xs) = barrier-polled_of xs

pub barrier-has_polled : (xs : List Arrived) → has_polled_data (poll_barrier xs) ≡ has_polled_data xs
barrier-has_polled [] = refl
barrier-has_polled (WasPolled (Data bytes) ∷ xs) = refl
barrier-has_polled (WasPolled (Barrier j kind) ∷ xs) = barrier-has_polled xs
barrier-has_polled (WasPolled End ∷ xs) = barrier-has_polled xs
barrier-has_polled (Waits (Data bytes) ∷ xs) = barrier-has_polled xs
barrier-has_polled (Waits (Barrier j kind) ∷ xs) = refl
barrier-has_polled (Waits End ∷ xs) = barrier-has_polled xs

barrier-in_order : (xs : List Arrived) → IsInOrder xs → IsInOrder (poll_barrier xs)
barrier-in_order [] h = tt
barrier-in_order (WasPolled p ∷ xs) h = barrier-in_order xs h
barrier-in_order (Waits (Data bytes) ∷ xs) h = barrier-has_polled xs ∙ h
barrier-in_order (Waits (Barrier j kind) ∷ xs) h = none-in_order xs h
barrier-in_order (Waits End ∷ xs) h = barrier-has_polled xs ∙ h

no_data-first_barrier : (xs : List Arrived) → data_in (first_barrier (waiting xs)) ≡ []
no_data-first_barrier [] = refl
no_data-first_barrier (WasPolled p ∷ xs) = no_data-first_barrier xs
no_data-first_barrier (Waits (Data bytes) ∷ xs) = no_data-first_barrier xs
no_data-first_barrier (Waits (Barrier j kind) ∷ xs) = refl
no_data-first_barrier (Waits End ∷ xs) = no_data-first_barrier xs

-- arrivals that come later wait
pub later-polled_of : (xs : List Arrived) (ps : List Parcel) → polled_of (xs ++ map Waits ps) ≡ polled_of xs
later-polled_of [] [] = refl
later-polled_of [] (p ∷ ps) = later-polled_of [] ps
later-polled_of (WasPolled (Data bytes) ∷ xs) ps = ap (λ z. bytes ++ z) (later-polled_of xs ps)
later-polled_of (WasPolled (Barrier j kind) ∷ xs) ps = later-polled_of xs ps
later-polled_of (WasPolled End ∷ xs) ps = later-polled_of xs ps
later-polled_of (Waits p ∷ xs) ps = later-polled_of xs ps

pub later-has_polled : (xs : List Arrived) (ps : List Parcel) → has_polled_data (xs ++ map Waits ps) ≡ has_polled_data xs
later-has_polled [] [] = refl
later-has_polled [] (p ∷ ps) = later-has_polled [] ps
later-has_polled (WasPolled (Data bytes) ∷ xs) ps = refl
later-has_polled (WasPolled (Barrier j kind) ∷ xs) ps = later-has_polled xs ps
later-has_polled (WasPolled End ∷ xs) ps = later-has_polled xs ps
later-has_polled (Waits p ∷ xs) ps = later-has_polled xs ps

later-in_order : (xs : List Arrived) (ps : List Parcel) → IsInOrder xs → IsInOrder (xs ++ map Waits ps)
later-in_order [] ps h = none-in_order (map Waits ps) (later-has_polled [] ps)
later-in_order (WasPolled p ∷ xs) ps h = later-in_order xs ps h
later-in_order (Waits p ∷ xs) ps h = later-has_polled xs ps ∙ h

pub later-parcels : (xs : List Arrived) (ps : List Parcel) → map parcel_of (xs ++ map Waits ps) ≡ map parcel_of xs ++ ps
later-parcels [] [] = refl
later-parcels [] (p ∷ ps) = ap (λ qs. p ∷ qs) (later-parcels [] ps)
later-parcels (a ∷ xs) ps = ap (λ qs. parcel_of a ∷ qs) (later-parcels xs ps)

later-polled_before : (k : ℕ) (xs : List Arrived) (ps : List Parcel) → polled_before k (xs ++ map Waits ps) ≡ polled_before k xs
later-polled_before k [] [] = refl
later-polled_before k [] (Data bytes ∷ ps) = later-polled_before k [] ps
later-polled_before k [] (Barrier j kind ∷ ps) = elim (eqb j k) as (λ b. cond b [] (polled_before k (map Waits ps)) ≡ []) [ true ↦ refl | false ↦ later-polled_before k [] ps ]
later-polled_before k [] (End ∷ ps) = later-polled_before k [] ps
later-polled_before k (WasPolled (Data bytes) ∷ xs) ps = ap (λ z. bytes ++ z) (later-polled_before k xs ps)
later-polled_before k (WasPolled (Barrier j kind) ∷ xs) ps = ap (λ z. cond (eqb j k) [] z) (later-polled_before k xs ps)
later-polled_before k (WasPolled End ∷ xs) ps = later-polled_before k xs ps
later-polled_before k (Waits (Data bytes) ∷ xs) ps = later-polled_before k xs ps
later-polled_before k (Waits (Barrier j kind) ∷ xs) ps = ap (λ z. cond (eqb j k) [] z) (later-polled_before k xs ps)
later-polled_before k (Waits End ∷ xs) ps = later-polled_before k xs ps

-- ---- before a barrier and behind it

-- what was polled stands before barrier k or behind it
polled_parts : (k : ℕ) (xs : List Arrived) → polled_of xs ≡ polled_before k xs ++ polled_behind k xs
polled_parts k [] = refl
polled_parts k (WasPolled (Data bytes) ∷ xs) = ap (λ z. bytes ++ z) (polled_parts k xs) ∙ sym (append_assoc bytes (polled_before k xs) (polled_behind k xs))
polled_parts k (WasPolled (Barrier j kind) ∷ xs) = elim (eqb j k) as (λ b. polled_of xs ≡ cond b [] (polled_before k xs) ++ cond b (polled_of xs) (polled_behind k xs)) [ true ↦ refl | false ↦ polled_parts k xs ]
polled_parts k (WasPolled End ∷ xs) = polled_parts k xs
polled_parts k (Waits (Data bytes) ∷ xs) = polled_parts k xs
polled_parts k (Waits (Barrier j kind) ∷ xs) = elim (eqb j k) as (λ b. polled_of xs ≡ cond b [] (polled_before k xs) ++ cond b (polled_of xs) (polled_behind k xs)) [ true ↦ refl | false ↦ polled_parts k xs ]
polled_parts k (Waits End ∷ xs) = polled_parts k xs

-- where no data were polled there are none before it
none-polled_before : (k : ℕ) (xs : List Arrived) → has_polled_data xs ≡ false → polled_before k xs ≡ []
none-polled_before k [] none = refl
none-polled_before k (WasPolled (Data bytes) ∷ xs) none = absurd (true≢false none)
none-polled_before k (WasPolled (Barrier j kind) ∷ xs) none = elim (eqb j k) as (λ b. cond b [] (polled_before k xs) ≡ []) [ true ↦ refl | false ↦ none-polled_before k xs none ]
none-polled_before k (WasPolled End ∷ xs) none = none-polled_before k xs none
none-polled_before k (Waits (Data bytes) ∷ xs) none = none-polled_before k xs none
none-polled_before k (Waits (Barrier j kind) ∷ xs) none = elim (eqb j k) as (λ b. cond b [] (polled_before k xs) ≡ []) [ true ↦ refl | false ↦ none-polled_before k xs none ]
none-polled_before k (Waits End ∷ xs) none = none-polled_before k xs none

-- the data before barrier k are those that were polled, and then those that wait
parts_before : (k : ℕ) (xs : List Arrived) → IsInOrder xs → polled_before k xs ++ waiting_before k xs ≡ data_before k (map parcel_of xs)
parts_before k [] h = refl
parts_before k (WasPolled (Data bytes) ∷ xs) h = append_assoc bytes (polled_before k xs) (waiting_before k xs) ∙ ap (λ z. bytes ++ z) (parts_before k xs h)
parts_before k (WasPolled (Barrier j kind) ∷ xs) h = elim (eqb j k) as (λ b. cond b [] (polled_before k xs) ++ cond b [] (waiting_before k xs) ≡ cond b [] (data_before k (map parcel_of xs))) [ true ↦ refl | false ↦ parts_before k xs h ]
parts_before k (WasPolled End ∷ xs) h = parts_before k xs h
parts_before k (Waits (Data bytes) ∷ xs) h =
    let none = none-polled_before k xs h in
    ap (λ z. z ++ (bytes ++ waiting_before k xs)) none
    ∙ ap (λ z. bytes ++ z) (ap (λ z. z ++ waiting_before k xs) (sym none) ∙ parts_before k xs (none-in_order xs h))
parts_before k (Waits (Barrier j kind) ∷ xs) h = elim (eqb j k) as (λ b. cond b [] (polled_before k xs) ++ cond b [] (waiting_before k xs) ≡ cond b [] (data_before k (map parcel_of xs))) [ true ↦ refl | false ↦ parts_before k xs (none-in_order xs h) ]
parts_before k (Waits End ∷ xs) h = parts_before k xs (none-in_order xs h)

-- ---- what holds of an inbox at every moment

pub record IsKept (i : Inbox) : Type 0 where
  pub ordered : IsInOrder i.arrivals
  pub given : data_of i.given ≡ polled_of i.arrivals

kept_due : (i : Inbox) → IsKept i → IsKept (record { arrivals = poll_due i.arrivals; given = i.given ++ option_to_list (due (waiting i.arrivals)) })
kept_due i kept =
    elim (front_waits (waiting i.arrivals)) as (λ b. IsKept (record { arrivals = cond b (poll_barrier i.arrivals) (poll_first i.arrivals); given = i.given ++ option_to_list (cond b (first_barrier (waiting i.arrivals)) (first_parcel (waiting i.arrivals))) })) [
      | true ↦ record {
        ordered = barrier-in_order i.arrivals kept.ordered;
        given = data_of-append i.given (option_to_list (first_barrier (waiting i.arrivals))) ∙ ap (λ z. data_of i.given ++ z) (no_data-first_barrier i.arrivals) ∙ append-nil (data_of i.given) ∙ kept.given ∙ sym (barrier-polled_of i.arrivals);
      }
      | false ↦ record {
        ordered = first-in_order i.arrivals kept.ordered;
        given = data_of-append i.given (option_to_list (first_parcel (waiting i.arrivals))) ∙ ap (λ z. z ++ data_in (first_parcel (waiting i.arrivals))) kept.given ∙ sym (first-polled_of i.arrivals kept.ordered);
      }
    ]

kept_one : (i : Inbox) (e : ReceiveEntry) → IsKept i → IsKept (received_one i e)
kept_one i (Push p backlog) kept = record { ordered = later-in_order i.arrivals (p ∷ []) kept.ordered; given = kept.given ∙ sym (later-polled_of i.arrivals (p ∷ [])) }
kept_one i (Poll hold gave) kept =
    elim (hold && is_barrier (due (waiting i.arrivals))) as (λ b. IsKept (cond b i (record { arrivals = poll_due i.arrivals; given = i.given ++ option_to_list (due (waiting i.arrivals)) }))) [
      | true ↦ kept
      | false ↦ kept_due i kept
    ]
kept_one i e kept = kept

kept_from : (i : Inbox) (es : List ReceiveEntry) → IsKept i → IsKept (received_from i es)
kept_from i [] kept = kept
kept_from i (e ∷ es) kept = kept_from (received_one i e) es (kept_one i e kept)

pub always_kept : (es : List ReceiveEntry) → IsKept (inbox es)
always_kept es = kept_from empty_inbox es (record { ordered = tt; given = refl })

-- What waits before barrier k at some moment, and what comes later, makes what was polled there up to the data before barrier k.
pub at_moment : (before after : List ReceiveEntry) (k : ℕ) → polled_behind k (inbox before).arrivals ≡ [] →
    polled_bytes before ++ waiting_before k ((inbox before).arrivals ++ map Waits (pushed after)) ≡ data_before k (pushed before ++ pushed after)
at_moment before after k in_time =
    let xs = (inbox before).arrivals in
    let kept = always_kept before in
    ap (λ z. z ++ waiting_before k (xs ++ map Waits (pushed after)))
    (kept.given ∙ polled_parts k xs ∙ ap (λ z. polled_before k xs ++ z) in_time ∙ append-nil (polled_before k xs) ∙ sym (later-polled_before k xs (pushed after)))
    ∙ parts_before k (xs ++ map Waits (pushed after)) (later-in_order xs (pushed after) kept.ordered)
    ∙ ap (data_before k) (later-parcels xs (pushed after) ∙ ap (λ ps. ps ++ pushed after) (arrivals_are_pushed before))
