-- What stands first, while nothing is taken.
use Rattle.std.proofs.Common.{◌≡◌, ◌≢◌, inl, inr, ℕ, Bool, true, false, cond, eqb, List, [], ◌∷◌, ◌++◌, Option, Some, None, slice_get, refl, sym, ap, subst, ◌∙◌, append_assoc, append-nil, true≢false, eqb-true, eq-eqb}
use Rattle.std.specs.List.{list_any}
use Rattle.turn_cell.specs.History.{by, IsHistory, entries_of, StartsWith}
use Rattle.turn_cell.proofs.Histories.{entries_of-append}
use Rattle.turn_cell.proofs.Lists.{by-append, first_apart}
use Rattle.flow_defs.specs.declared.task.BarrierKind.TheVariants.{Inline, Front}
use Rattle.flow_defs.specs.declared.parcel.Parcel.{Parcel}
use Rattle.flow_defs.specs.declared.parcel.Parcel.TheVariants.{Data, Barrier, End}
use Rattle.flow_defs.specs.Parcels.{has_end}
use Rattle.flow_defs.proofs.Lists.{cancel_nil}
use Rattle.flow_defs.proofs.ParcelLemmas.{has_end-append}
use Rattle.subpartition.specs.declared.entry.SendEntry.{SendEntry}
use Rattle.subpartition.specs.declared.entry.SendEntry.TheVariants.{Put, PutInline, PutFront, Finish, Take, Size}
use Rattle.flow_defs.specs.Barriers.{is_barrier, up_to_last, behind_last}
use Rattle.subpartition.specs.Sending.{Outbox, with_front, sent_one, outbox, is_finished, MaySend, may_send, MaySendAs}
use Rattle.subpartition.specs.Theorems.{FirstStays, FirstItemStays}
use Rattle.subpartition.proofs.Travelling.{empty_outbox, sent_from-append, end_travels}

second_none : (a b : Bool) → cond a true b ≡ false → b ≡ false
second_none true b h = absurd (true≢false h)
second_none false b h = h

none_left : (es : List SendEntry) → is_finished es ≡ false → has_end (outbox es).items ≡ false
none_left es none = second_none (has_end (outbox es).taken) (has_end (outbox es).items) (sym (has_end-append (outbox es).taken (outbox es).items) ∙ end_travels es ∙ none)

stays_same : (p : Option Parcel) → FirstStays p p
stays_same None = tt
stays_same (Some (Data bytes)) = inl refl
stays_same (Some (Barrier k kind)) = refl
stays_same (Some End) = refl

stays_on : (p q r : Option Parcel) → FirstStays p q → FirstStays q r → FirstStays p r
stays_on None q r one two = tt
stays_on (Some (Data bytes)) q r one two =
    elim one as (λ h. FirstStays (Some (Data bytes)) r) [
      | inl is ↦ subst (λ x. FirstStays x r) is two
      | inr is ↦ inr (is.0, subst (λ x. FirstStays x r) is.1 two)
    ]
stays_on (Some (Barrier k kind)) q r one two = subst (λ x. FirstStays x r) one two
stays_on (Some End) q r one two = subst (λ x. FirstStays x r) one two

behind_stays : (items more : List Parcel) → FirstStays (slice_get items 0) (slice_get (items ++ more) 0)
behind_stays [] more = tt
behind_stays (p ∷ items) more = stays_same (Some p)

front_stays : (k : ℕ) (items : List Parcel) → has_end items ≡ false → FirstStays (slice_get items 0) (slice_get (with_front k items) 0)
front_stays k [] none = tt
front_stays k (Data bytes ∷ ps) none =
    elim (list_any is_barrier ps) as (λ b. FirstStays (Some (Data bytes)) (slice_get (cond b (Data bytes ∷ up_to_last is_barrier ps) [] ++ Barrier k Front ∷ cond b (behind_last is_barrier ps) (Data bytes ∷ ps)) 0)) [
      | true ↦ inl refl
      | false ↦ inr (k, refl)
    ]
front_stays k (Barrier j kind ∷ ps) none = refl
front_stays k (End ∷ ps) none = absurd (true≢false none)

one_stays : (size : ℕ) (es : List SendEntry) (e : SendEntry) → MaySend size es e → (e ≡ Take → ⊥) → FirstStays (slice_get (outbox es).items 0) (slice_get (sent_one (outbox es) e).items 0)
one_stays size es (Put bytes) may no_take = behind_stays (outbox es).items (Data bytes ∷ [])
one_stays size es (PutInline k) may no_take = behind_stays (outbox es).items (Barrier k Inline ∷ [])
one_stays size es (PutFront k) may no_take = front_stays k (outbox es).items (none_left es may.unfinished)
one_stays size es Finish may no_take = behind_stays (outbox es).items (End ∷ [])
one_stays size es Take may no_take = absurd (no_take refl)
one_stays size es (Size n) may no_take = stays_same (slice_get (outbox es).items 0)

no_take_here : (n : ℕ) (e : SendEntry) → may_send n e ≡ true → eqb 1 n ≡ false → e ≡ Take → ⊥
no_take_here n e may apart is =
    let one : eqb n 1 ≡ true = ap (may_send n) (sym is) ∙ may in
    true≢false (sym (eq-eqb 1 n (sym (eqb-true n 1 one))) ∙ apart)

stays_along : (size : ℕ) (before more : List (ℕ × SendEntry)) → IsHistory (MaySendAs size) (before ++ more) → by 1 more ≡ [] →
    FirstStays (slice_get (outbox (entries_of before)).items 0) (slice_get (outbox (entries_of (before ++ more))).items 0)
stays_along size before [] legal none =
    subst (λ h. FirstStays (slice_get (outbox (entries_of before)).items 0) (slice_get (outbox (entries_of h)).items 0)) (sym (append-nil before)) (stays_same (slice_get (outbox (entries_of before)).items 0))
stays_along size before (pair ∷ more) legal none =
    let may = legal before more pair refl in
    let apart = first_apart 1 pair more none in
    let es = entries_of before in
    let same : (before ++ pair ∷ []) ++ more ≡ before ++ pair ∷ more = append_assoc before (pair ∷ []) more in
    let now : outbox (entries_of (before ++ pair ∷ [])) ≡ sent_one (outbox es) pair.1 = ap outbox (entries_of-append before (pair ∷ [])) ∙ sent_from-append empty_outbox es (pair.1 ∷ []) in
    stays_on (slice_get (outbox es).items 0) (slice_get (outbox (entries_of (before ++ pair ∷ []))).items 0) (slice_get (outbox (entries_of (before ++ pair ∷ more))).items 0)
    (subst (λ (o : Outbox). FirstStays (slice_get (outbox es).items 0) (slice_get o.items 0)) (sym now) (one_stays size es pair.1 may.1 (no_take_here pair.0 pair.1 may.0 apart.0)))
    (subst (λ h. FirstStays (slice_get (outbox (entries_of (before ++ pair ∷ []))).items 0) (slice_get (outbox (entries_of h)).items 0)) same
    (stays_along size (before ++ pair ∷ []) more (subst (IsHistory (MaySendAs size)) (sym same) legal) apart.1))

pub first_item_stays : FirstItemStays
first_item_stays size before now legal starts same =
    let none : by 1 starts.0 ≡ [] = cancel_nil (by 1 before) (by 1 starts.0) (sym (by-append 1 before starts.0) ∙ ap (by 1) (sym starts.1) ∙ same) in
    subst (λ h. FirstStays (slice_get (outbox (entries_of before)).items 0) (slice_get (outbox (entries_of h)).items 0)) (sym starts.1)
    (stays_along size before starts.0 (subst (IsHistory (MaySendAs size)) starts.1 legal) none)
