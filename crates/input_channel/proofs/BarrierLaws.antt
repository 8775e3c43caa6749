-- Which barriers were polled, in every history of the receiving end, and when a save is in time.
use Rattle.std.proofs.Common.{◌≡◌, ℕ, Bool, true, false, cond, eqb, ◌||◌, List, [], ◌∷◌, ◌++◌, Option, Some, None, refl, sym, ap, ◌∙◌, append-nil, true≢false}
use Rattle.std.specs.Prelude.{⊤, ◌&&◌, ◌==◌, option_to_list}
use Rattle.flow_defs.specs.declared.task.BarrierKind.{BarrierKind}
use Rattle.flow_defs.specs.declared.parcel.Parcel.{Parcel}
use Rattle.flow_defs.specs.declared.parcel.Parcel.TheVariants.{Data, Barrier, End}
use Rattle.flow_defs.specs.Parcels.{barriers_of}
use Rattle.flow_defs.specs.Barriers.{has_barrier}
use Rattle.flow_defs.proofs.ParcelLemmas.{barriers_of-append}
use Rattle.input_channel.specs.declared.entry.ReceiveEntry.{ReceiveEntry}
use Rattle.input_channel.specs.declared.entry.ReceiveEntry.TheVariants.{Push, Poll}
use Rattle.input_channel.specs.Inboxes.{Arrived, WasPolled, Waits, Inbox, empty_inbox, front_waits, first_parcel, first_barrier, poll_first, poll_barrier, due, poll_due, poll_gives, is_barrier, polled_one, received_one, received_from, inbox, waiting, polled_of, polled_behind}
use Rattle.input_channel.specs.Theorems.{has_poll, NotPolledIsInTime, JustPolledIsInTime}
use Rattle.input_channel.proofs.InboxLaws.{received_from-append}
use Rattle.input_channel.proofs.DataLaws.{IsInOrder, none-in_order, none-polled_of, barrier-polled_of, later-polled_of, always_kept}

-- ---- which barriers were polled

abbrev pub polled_barriers : List Arrived → List (ℕ × BarrierKind)
polled_barriers [] = []
polled_barriers (WasPolled (Data bytes) ∷ xs) = polled_barriers xs
polled_barriers (WasPolled (Barrier j kind) ∷ xs) = (j, kind) ∷ polled_barriers xs
polled_barriers (WasPolled End ∷ xs) = polled_barriers xs
polled_barriers (Waits p ∷ xs) = polled_barriers xs

-- no barrier behind one that waits was polled
abbrev IsBarrierOrder : List Arrived → Type 0
IsBarrierOrder [] = ⊤
IsBarrierOrder (WasPolled p ∷ xs) = IsBarrierOrder xs
IsBarrierOrder (Waits (Data bytes) ∷ xs) = IsBarrierOrder xs
IsBarrierOrder (Waits (Barrier j kind) ∷ xs) = polled_barriers xs ≡ []
IsBarrierOrder (Waits End ∷ xs) = IsBarrierOrder xs

no_barriers : (x : ℕ × BarrierKind) (xs : List (ℕ × BarrierKind)) → x ∷ xs ≡ [] → ⊥
no_barriers x xs e = cc

none-barrier_order : (xs : List Arrived) → polled_barriers xs ≡ [] → IsBarrierOrder xs
none-barrier_order [] e = tt
none-barrier_order (WasPolled (Data bytes) ∷ xs) e = none-barrier_order xs e
none-barrier_order (WasPolled (Barrier j kind) ∷ xs) e = absurd (no_barriers (j, kind) (polled_barriers xs) e)
none-barrier_order (WasPolled End ∷ xs) e = none-barrier_order xs e
none-barrier_order (Waits (Data bytes) ∷ xs) e = none-barrier_order xs e
none-barrier_order (Waits (Barrier j kind) ∷ xs) e = e
none-barrier_order (Waits End ∷ xs) e = none-barrier_order xs e

abbrev barriers_in : Option Parcel → List (ℕ × BarrierKind)
barriers_in p = barriers_of (option_to_list p)

-- a poll of the first arrival, where no barrier is jumped
first-polled_barriers : (xs : List Arrived) → IsBarrierOrder xs → polled_barriers (poll_first xs) ≡ polled_barriers xs ++ barriers_in (first_parcel (waiting xs))
first-polled_barriers [] h = refl
first-polled_barriers (WasPolled (Data bytes) ∷ xs) h = first-polled_barriers xs h
first-polled_barriers (WasPolled (Barrier j kind) ∷ xs) h = ap (λ z. (j, kind) ∷ z) (first-polled_barriers xs h)
first-polled_barriers (WasPolled End ∷ xs) h = first-polled_barriers xs h
first-polled_barriers (Waits (Data bytes) ∷ xs) h = sym (append-nil (polled_barriers xs))
first-polled_barriers (Waits (Barrier j kind) ∷ xs) h = ap (λ z. (j, kind) ∷ z) h ∙ ap (λ z. z ++ (j, kind) ∷ []) (sym h)
first-polled_barriers (Waits End ∷ xs) h = sym (append-nil (polled_barriers xs))

first-barrier_order : (xs : List Arrived) → IsBarrierOrder xs → IsBarrierOrder (poll_first xs)
first-barrier_order [] h = tt
first-barrier_order (WasPolled p ∷ xs) h = first-barrier_order xs h
first-barrier_order (Waits (Data bytes) ∷ xs) h = h
first-barrier_order (Waits (Barrier j kind) ∷ xs) h = none-barrier_order xs h
first-barrier_order (Waits End ∷ xs) h = h

barrier-polled_barriers : (xs : List Arrived) → IsBarrierOrder xs → polled_barriers (poll_barrier xs) ≡ polled_barriers xs ++ barriers_in (first_barrier (waiting xs))
barrier-polled_barriers [] h = refl
barrier-polled_barriers (WasPolled (Data bytes) ∷ xs) h = barrier-polled_barriers xs h
barrier-polled_barriers (WasPolled (Barrier j kind) ∷ xs) h = ap (λ z. (j, kind) ∷ z) (barrier-polled_barriers xs h)
barrier-polled_barriers (WasPolled End ∷ xs) h = barrier-polled_barriers xs h
barrier-polled_barriers (Waits (Data bytes) ∷ xs) h = barrier-polled_barriers xs h
barrier-polled_barriers (Waits (Barrier j kind) ∷ xs) h = ap (λ z. (j, kind) ∷ z) h ∙ ap (λ z. z ++ (j, kind) ∷ []) (sym h)
barrier-polled_barriers (Waits End ∷ xs) h = barrier-polled_barriers xs h

barrier-barrier_order : (xs : List Arrived) → IsBarrierOrder xs → IsBarrierOrder (poll_barrier xs)
barrier-barrier_order [] h = tt
barrier-barrier_order (WasPolled p ∷ xs) h = barrier-barrier_order xs h
barrier-barrier_order (Waits (Data bytes) ∷ xs) h = barrier-barrier_order xs h
barrier-barrier_order (Waits (Barrier j kind) ∷ xs) h = none-barrier_order xs h
barrier-barrier_order (Waits End ∷ xs) h = barrier-barrier_order xs h

later-polled_barriers : (xs : List Arrived) (p : Parcel) → polled_barriers (xs ++ Waits p ∷ []) ≡ polled_barriers xs
later-polled_barriers [] p = refl
later-polled_barriers (WasPolled (Data bytes) ∷ xs) p = later-polled_barriers xs p
later-polled_barriers (WasPolled (Barrier j kind) ∷ xs) p = ap (λ z. (j, kind) ∷ z) (later-polled_barriers xs p)
later-polled_barriers (WasPolled End ∷ xs) p = later-polled_barriers xs p
later-polled_barriers (Waits q ∷ xs) p = later-polled_barriers xs p

later-barrier_order : (xs : List Arrived) (p : Parcel) → IsBarrierOrder xs → IsBarrierOrder (xs ++ Waits p ∷ [])
later-barrier_order [] p h = none-barrier_order (Waits p ∷ []) refl
later-barrier_order (WasPolled q ∷ xs) p h = later-barrier_order xs p h
later-barrier_order (Waits (Data bytes) ∷ xs) p h = later-barrier_order xs p h
later-barrier_order (Waits (Barrier j kind) ∷ xs) p h = later-polled_barriers xs p ∙ h
later-barrier_order (Waits End ∷ xs) p h = later-barrier_order xs p h

record KeepsBarriers (i : Inbox) : Type 0 where
  pub ordered : IsBarrierOrder i.arrivals
  pub given : barriers_of i.given ≡ polled_barriers i.arrivals

keeps_due : (i : Inbox) → KeepsBarriers i → KeepsBarriers (record { arrivals = poll_due i.arrivals; given = i.given ++ option_to_list (due (waiting i.arrivals)) })
keeps_due i keeps =
    elim (front_waits (waiting i.arrivals)) as (λ b. KeepsBarriers (record { arrivals = cond b (poll_barrier i.arrivals) (poll_first i.arrivals); given = i.given ++ option_to_list (cond b (first_barrier (waiting i.arrivals)) (first_parcel (waiting i.arrivals))) })) [
      | true ↦ record {
        ordered = barrier-barrier_order i.arrivals keeps.ordered;
        given = barriers_of-append i.given (option_to_list (first_barrier (waiting i.arrivals))) ∙ ap (λ z. z ++ barriers_in (first_barrier (waiting i.arrivals))) keeps.given ∙ sym (barrier-polled_barriers i.arrivals keeps.ordered);
      }
      | false ↦ record {
        ordered = first-barrier_order i.arrivals keeps.ordered;
        given = barriers_of-append i.given (option_to_list (first_parcel (waiting i.arrivals))) ∙ ap (λ z. z ++ barriers_in (first_parcel (waiting i.arrivals))) keeps.given ∙ sym (first-polled_barriers i.arrivals keeps.ordered);
      }
    ]

keeps_one : (i : Inbox) (e : ReceiveEntry) → KeepsBarriers i → KeepsBarriers (received_one i e)
keeps_one i (Push p backlog) keeps = record { ordered = later-barrier_order i.arrivals p keeps.ordered; given = keeps.given ∙ sym (later-polled_barriers i.arrivals p) }
keeps_one i (Poll hold gave) keeps =
    elim (hold && is_barrier (due (waiting i.arrivals))) as (λ b. KeepsBarriers (cond b i (record { arrivals = poll_due i.arrivals; given = i.given ++ option_to_list (due (waiting i.arrivals)) }))) [
      | true ↦ keeps
      | false ↦ keeps_due i keeps
    ]
keeps_one i e keeps = keeps

keeps_from : (i : Inbox) (es : List ReceiveEntry) → KeepsBarriers i → KeepsBarriers (received_from i es)
keeps_from i [] keeps = keeps
keeps_from i (e ∷ es) keeps = keeps_from (received_one i e) es (keeps_one i e keeps)

keeps_all : (es : List ReceiveEntry) → KeepsBarriers (inbox es)
keeps_all es = keeps_from empty_inbox es (record { ordered = tt; given = refl })

-- ---- a barrier by its number

abbrev pub has_number : ℕ → List (ℕ × BarrierKind) → Bool
has_number k [] = false
has_number k (barrier ∷ barriers) = (barrier.0 == k) || has_number k barriers

pub has_barrier-number : (k : ℕ) (ps : List Parcel) → has_barrier k ps ≡ has_number k (barriers_of ps)
has_barrier-number k [] = refl
has_barrier-number k (Data bytes ∷ ps) = has_barrier-number k ps
has_barrier-number k (Barrier j kind ∷ ps) = ap (λ b. eqb j k || b) (has_barrier-number k ps)
has_barrier-number k (End ∷ ps) = has_barrier-number k ps

pub not_polled : (es : List ReceiveEntry) (k : ℕ) → has_barrier k (inbox es).given ≡ false → has_number k (polled_barriers (inbox es).arrivals) ≡ false
not_polled es k none = ap (has_number k) (sym (keeps_all es).given) ∙ sym (has_barrier-number k (inbox es).given) ∙ none

pub none_behind : (k : ℕ) (xs : List Arrived) → IsInOrder xs → has_number k (polled_barriers xs) ≡ false → polled_behind k xs ≡ []
none_behind k [] h none = refl
none_behind k (WasPolled (Data bytes) ∷ xs) h none = none_behind k xs h none
none_behind k (WasPolled (Barrier j kind) ∷ xs) h none =
    elim (eqb j k) as (λ b. (b || has_number k (polled_barriers xs)) ≡ false → cond b (polled_of xs) (polled_behind k xs) ≡ []) [ true ↦ λ e. absurd (true≢false e) | false ↦ λ e. none_behind k xs h e ] none
none_behind k (WasPolled End ∷ xs) h none = none_behind k xs h none
none_behind k (Waits (Data bytes) ∷ xs) h none = none_behind k xs (none-in_order xs h) none
none_behind k (Waits (Barrier j kind) ∷ xs) h none =
    elim (eqb j k) as (λ b. cond b (polled_of xs) (polled_behind k xs) ≡ []) [ true ↦ none-polled_of xs h | false ↦ none_behind k xs (none-in_order xs h) none ]
none_behind k (Waits End ∷ xs) h none = none_behind k xs (none-in_order xs h) none

pub not_polled_is_in_time : NotPolledIsInTime
not_polled_is_in_time es k none = none_behind k (inbox es).arrivals (always_kept es).ordered (not_polled es k none)

-- ---- a barrier that was polled last

-- polling a barrier leaves which data were polled
barrier-behind : (k : ℕ) (xs : List Arrived) → polled_behind k (poll_barrier xs) ≡ polled_behind k xs
barrier-behind k [] = refl
barrier-behind k (WasPolled (Data bytes) ∷ xs) = barrier-behind k xs
barrier-behind k (WasPolled (Barrier j kind) ∷ xs) =
    elim (eqb j k) as (λ b. cond b (polled_of (poll_barrier xs)) (polled_behind k (poll_barrier xs)) ≡ cond b (polled_of xs) (polled_behind k xs)) [ true ↦ barrier-polled_of xs | false ↦ barrier-behind k xs ]
barrier-behind k (WasPolled End ∷ xs) = barrier-behind k xs
barrier-behind k (Waits (Data bytes) ∷ xs) = barrier-behind k xs
barrier-behind k (Waits (Barrier j kind) ∷ xs) = refl
barrier-behind k (Waits End ∷ xs) = barrier-behind k xs

first-behind : (k : ℕ) (xs : List Arrived) (j : ℕ) (kind : BarrierKind) → first_parcel (waiting xs) ≡ Some (Barrier j kind) → (polled_of (poll_first xs) ≡ polled_of xs) × (polled_behind k (poll_first xs) ≡ polled_behind k xs)
first-behind k [] j kind h = (refl, refl)
first-behind k (WasPolled (Data bytes) ∷ xs) j kind h = let r = first-behind k xs j kind h in (ap (λ z. bytes ++ z) r.0, r.1)
first-behind k (WasPolled (Barrier i kind') ∷ xs) j kind h =
    let r = first-behind k xs j kind h in
    (r.0, elim (eqb i k) as (λ b. cond b (polled_of (poll_first xs)) (polled_behind k (poll_first xs)) ≡ cond b (polled_of xs) (polled_behind k xs)) [ true ↦ r.0 | false ↦ r.1 ])
first-behind k (WasPolled End ∷ xs) j kind h = first-behind k xs j kind h
first-behind k (Waits (Data bytes) ∷ xs) j kind h = absurd (other bytes j kind h)
  where
    other : (bytes : List ℕ) (j : ℕ) (kind : BarrierKind) → Some (Data bytes) ≡ Some (Barrier j kind) → ⊥
    other bytes j kind e = cc
first-behind k (Waits (Barrier i kind') ∷ xs) j kind h = (refl, refl)
first-behind k (Waits End ∷ xs) j kind h = (refl, refl)

pub no_parcel : (j : ℕ) (kind : BarrierKind) → ◌≡◌ {A = Option Parcel} None (Some (Barrier j kind)) → ⊥
no_parcel j kind e = cc

-- what a poll gave was due
pub was_due : (hold : Bool) (i : Inbox) (k : ℕ) (kind : BarrierKind) → poll_gives hold (waiting i.arrivals) ≡ Some (Barrier k kind) →
    (due (waiting i.arrivals) ≡ Some (Barrier k kind)) × (polled_one hold i ≡ record { arrivals = poll_due i.arrivals; given = i.given ++ option_to_list (due (waiting i.arrivals)) })
was_due hold i k kind =
    elim (hold && is_barrier (due (waiting i.arrivals))) as (λ b. cond b None (due (waiting i.arrivals)) ≡ Some (Barrier k kind) →
    (due (waiting i.arrivals) ≡ Some (Barrier k kind)) × (cond b i (record { arrivals = poll_due i.arrivals; given = i.given ++ option_to_list (due (waiting i.arrivals)) }) ≡ record { arrivals = poll_due i.arrivals; given = i.given ++ option_to_list (due (waiting i.arrivals)) })) [
      | true ↦ λ e. absurd (no_parcel k kind e)
      | false ↦ λ e. (e, refl)
    ]

due-behind : (k : ℕ) (xs : List Arrived) (j : ℕ) (kind : BarrierKind) → due (waiting xs) ≡ Some (Barrier j kind) → polled_behind k (poll_due xs) ≡ polled_behind k xs
due-behind k xs j kind =
    elim (front_waits (waiting xs)) as (λ b. cond b (first_barrier (waiting xs)) (first_parcel (waiting xs)) ≡ Some (Barrier j kind) → polled_behind k (cond b (poll_barrier xs) (poll_first xs)) ≡ polled_behind k xs) [
      | true ↦ λ e. barrier-behind k xs
      | false ↦ λ e. (first-behind k xs j kind e).1
    ]

later-behind : (k : ℕ) (xs : List Arrived) (p : Parcel) → polled_behind k (xs ++ Waits p ∷ []) ≡ polled_behind k xs
later-behind k [] (Data bytes) = refl
later-behind k [] (Barrier j kind) = elim (eqb j k) as (λ b. ◌≡◌ {A = List ℕ} (cond b [] []) []) [ true ↦ refl | false ↦ refl ]
later-behind k [] End = refl
later-behind k (WasPolled (Data bytes) ∷ xs) p = later-behind k xs p
later-behind k (WasPolled (Barrier j kind) ∷ xs) p =
    elim (eqb j k) as (λ b. cond b (polled_of (xs ++ Waits p ∷ [])) (polled_behind k (xs ++ Waits p ∷ [])) ≡ cond b (polled_of xs) (polled_behind k xs)) [ true ↦ later-polled_of xs (p ∷ []) | false ↦ later-behind k xs p ]
later-behind k (WasPolled End ∷ xs) p = later-behind k xs p
later-behind k (Waits (Data bytes) ∷ xs) p = later-behind k xs p
later-behind k (Waits (Barrier j kind) ∷ xs) p =
    elim (eqb j k) as (λ b. cond b (polled_of (xs ++ Waits p ∷ [])) (polled_behind k (xs ++ Waits p ∷ [])) ≡ cond b (polled_of xs) (polled_behind k xs)) [ true ↦ later-polled_of xs (p ∷ []) | false ↦ later-behind k xs p ]
later-behind k (Waits End ∷ xs) p = later-behind k xs p

-- without polls nothing more was polled
no_poll-behind : (k : ℕ) (i : Inbox) (es : List ReceiveEntry) → has_poll es ≡ false → polled_behind k (received_from i es).arrivals ≡ polled_behind k i.arrivals
no_poll-behind k i [] none = refl
no_poll-behind k i (Poll hold gave ∷ es) none = absurd (true≢false none)
no_poll-behind k i (Push p backlog ∷ es) none = no_poll-behind k (received_one i (Push p backlog)) es none ∙ later-behind k i.arrivals p
no_poll-behind k i (e ∷ es) none = no_poll-behind k i es none

pub just_polled_is_in_time : JustPolledIsInTime
just_polled_is_in_time es more hold gave k kind none gives still =
    let i = inbox es in
    let w = was_due hold i k kind gives in
    ap (λ (j : Inbox). polled_behind k j.arrivals) (received_from-append empty_inbox es (Poll hold gave ∷ more))
    ∙ no_poll-behind k (polled_one hold i) more still
    ∙ ap (λ (j : Inbox). polled_behind k j.arrivals) w.1
    ∙ due-behind k i.arrivals k kind w.0
    ∙ not_polled_is_in_time es k none
