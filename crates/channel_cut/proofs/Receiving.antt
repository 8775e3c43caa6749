-- A barrier that is polled in line: all data before it were polled, and it has come.
use Rattle.std.proofs.Common.{◌≡◌, ℕ, Bool, true, false, cond, eqb, ◌||◌, List, [], ◌∷◌, ◌++◌, map, Option, Some, None, refl, sym, ap, ◌∙◌, append-nil, true≢false, eq-eqb}
use Rattle.flow_defs.specs.declared.task.BarrierKind.{BarrierKind}
use Rattle.flow_defs.specs.declared.task.BarrierKind.TheVariants.{Inline, Front}
use Rattle.flow_defs.specs.declared.parcel.Parcel.{Parcel}
use Rattle.flow_defs.specs.declared.parcel.Parcel.TheVariants.{Data, Barrier, End}
use Rattle.flow_defs.specs.Parcels.{barriers_of}
use Rattle.flow_defs.specs.Barriers.{data_before, has_barrier, kind_of}
use Rattle.input_channel.specs.declared.entry.ReceiveEntry.{ReceiveEntry}
use Rattle.input_channel.specs.Inboxes.{Arrived, WasPolled, Waits, front_waits, first_parcel, first_barrier, inbox, pushed, waiting, parcel_of, polled_bytes, waiting_before}
use Rattle.input_channel.proofs.InboxLaws.{pushed-append, arrivals_are_pushed}
use Rattle.input_channel.proofs.DataLaws.{at_moment}
use Rattle.input_channel.proofs.BarrierLaws.{polled_barriers, has_number, not_polled, not_polled_is_in_time, no_parcel, was_due}
use Rattle.channel_cut.specs.Cuts.{GaveInLine, InLineHasAllBefore}

-- ---- a barrier that is polled in line

none_waits : (k : ℕ) (kind : BarrierKind) (xs more : List Arrived) → first_parcel (waiting xs) ≡ Some (Barrier k kind) → waiting_before k (xs ++ more) ≡ []
none_waits k kind [] more h = absurd (no_parcel k kind h)
none_waits k kind (WasPolled (Data bytes) ∷ xs) more h = none_waits k kind xs more h
none_waits k kind (WasPolled (Barrier j kind') ∷ xs) more h = elim (eqb j k) as (λ b. cond b [] (waiting_before k (xs ++ more)) ≡ []) [ true ↦ refl | false ↦ none_waits k kind xs more h ]
none_waits k kind (WasPolled End ∷ xs) more h = none_waits k kind xs more h
none_waits k kind (Waits (Data bytes) ∷ xs) more h = absurd (other bytes k kind h)
  where
    other : (bytes : List ℕ) (j : ℕ) (kind : BarrierKind) → Some (Data bytes) ≡ Some (Barrier j kind) → ⊥
    other bytes j kind e = cc
none_waits k kind (Waits (Barrier j kind') ∷ xs) more h = ap (λ b. cond b [] (waiting_before k (xs ++ more))) (eq-eqb j k (same j k kind' kind h))
  where
    same : (j k : ℕ) (kind' kind : BarrierKind) → Some (Barrier j kind') ≡ Some (Barrier k kind) → j ≡ k
    same j k kind' kind e = cc
none_waits k kind (Waits End ∷ xs) more h = absurd (other k kind h)
  where
    other : (j : ℕ) (kind : BarrierKind) → ◌≡◌ {A = Option Parcel} (Some End) (Some (Barrier j kind)) → ⊥
    other j kind e = cc

-- a front barrier that is given is no inline one
front_first : (k : ℕ) (ps : List Parcel) → front_waits ps ≡ true → first_barrier ps ≡ Some (Barrier k Inline) → ⊥
front_first k [] h e = true≢false (sym h)
front_first k (Data bytes ∷ ps) h e = front_first k ps h e
front_first k (Barrier j Inline ∷ ps) h e = true≢false (sym h)
front_first k (Barrier j Front ∷ ps) h e = other j k e
  where
    other : (j k : ℕ) → ◌≡◌ {A = Option Parcel} (Some (Barrier j Front)) (Some (Barrier k Inline)) → ⊥
    other j k e = cc
front_first k (End ∷ ps) h e = front_first k ps h e

first_in_line : (es : List ReceiveEntry) (hold : Bool) (k : ℕ) → GaveInLine es hold k → first_parcel (waiting (inbox es).arrivals) ≡ Some (Barrier k Inline)
first_in_line es hold k gave =
    let ps = waiting (inbox es).arrivals in
    elim (front_waits ps) as (λ b. front_waits ps ≡ b → cond b (first_barrier ps) (first_parcel ps) ≡ Some (Barrier k Inline) → first_parcel ps ≡ Some (Barrier k Inline)) [
      | true ↦ λ h e. absurd (front_first k ps h e)
      | false ↦ λ h e. e
    ] refl (was_due hold (inbox es) k Inline gave.gives).0

pub in_line_has_all_before : InLineHasAllBefore
in_line_has_all_before es more hold k gave =
    let late = map Waits (pushed more) in
    let in_time = not_polled_is_in_time es k gave.once in
    sym (append-nil (polled_bytes es))
    ∙ ap (λ z. polled_bytes es ++ z) (sym (none_waits k Inline (inbox es).arrivals late (first_in_line es hold k gave)))
    ∙ at_moment es more k in_time
    ∙ ap (data_before k) (sym (pushed-append es more))

-- ---- a barrier that was polled in line has come

or_true : (b : Bool) → (b || true) ≡ true
or_true true = refl
or_true false = refl

first_came : (k : ℕ) (kind : BarrierKind) (xs : List Arrived) → first_parcel (waiting xs) ≡ Some (Barrier k kind) → has_barrier k (map parcel_of xs) ≡ true
first_came k kind [] h = absurd (no_parcel k kind h)
first_came k kind (WasPolled (Data bytes) ∷ xs) h = first_came k kind xs h
first_came k kind (WasPolled (Barrier j other) ∷ xs) h = ap (λ b. eqb j k || b) (first_came k kind xs h) ∙ or_true (eqb j k)
first_came k kind (WasPolled End ∷ xs) h = first_came k kind xs h
first_came k kind (Waits (Data bytes) ∷ xs) h = absurd (other bytes k kind h)
  where
    other : (bytes : List ℕ) (j : ℕ) (kind : BarrierKind) → Some (Data bytes) ≡ Some (Barrier j kind) → ⊥
    other bytes j kind e = cc
first_came k kind (Waits (Barrier j other) ∷ xs) h = ap (λ b. b || has_barrier k (map parcel_of xs)) (eq-eqb j k (same j k other kind h))
  where
    same : (j k : ℕ) (other kind : BarrierKind) → Some (Barrier j other) ≡ Some (Barrier k kind) → j ≡ k
    same j k other kind e = cc
first_came k kind (Waits End ∷ xs) h = absurd (other k kind h)
  where
    other : (j : ℕ) (kind : BarrierKind) → ◌≡◌ {A = Option Parcel} (Some End) (Some (Barrier j kind)) → ⊥
    other j kind e = cc

pub in_line_came : (es : List ReceiveEntry) (hold : Bool) (k : ℕ) → GaveInLine es hold k → has_barrier k (pushed es) ≡ true
in_line_came es hold k gave = ap (has_barrier k) (sym (arrivals_are_pushed es)) ∙ first_came k Inline (inbox es).arrivals (first_in_line es hold k gave)

-- ---- the kind of a barrier

pub kind_of-append : (k : ℕ) (kind : BarrierKind) (bs more : List (ℕ × BarrierKind)) → kind_of k bs ≡ Some kind → kind_of k (bs ++ more) ≡ Some kind
kind_of-append k kind [] more h = absurd (nothing kind h)
  where
    nothing : (kind : BarrierKind) → ◌≡◌ {A = Option BarrierKind} None (Some kind) → ⊥
    nothing kind e = cc
kind_of-append k kind (b ∷ bs) more h =
    elim (eqb b.0 k) as (λ t. cond t (Some b.1) (kind_of k bs) ≡ Some kind → cond t (Some b.1) (kind_of k (bs ++ more)) ≡ Some kind) [ true ↦ λ e. e | false ↦ λ e. kind_of-append k kind bs more e ] h

first_kind : (k : ℕ) (kind : BarrierKind) (xs : List Arrived) → first_parcel (waiting xs) ≡ Some (Barrier k kind) → has_number k (polled_barriers xs) ≡ false → kind_of k (barriers_of (map parcel_of xs)) ≡ Some kind
first_kind k kind [] h none = absurd (no_parcel k kind h)
first_kind k kind (WasPolled (Data bytes) ∷ xs) h none = first_kind k kind xs h none
first_kind k kind (WasPolled (Barrier j other) ∷ xs) h none =
    elim (eqb j k) as (λ b. (b || has_number k (polled_barriers xs)) ≡ false → cond b (Some other) (kind_of k (barriers_of (map parcel_of xs))) ≡ Some kind) [ true ↦ λ e. absurd (true≢false e) | false ↦ λ e. first_kind k kind xs h e ] none
first_kind k kind (WasPolled End ∷ xs) h none = first_kind k kind xs h none
first_kind k kind (Waits (Data bytes) ∷ xs) h none = absurd (other bytes k kind h)
  where
    other : (bytes : List ℕ) (j : ℕ) (kind : BarrierKind) → Some (Data bytes) ≡ Some (Barrier j kind) → ⊥
    other bytes j kind e = cc
first_kind k kind (Waits (Barrier j other) ∷ xs) h none =
    ap (λ b. cond b (Some other) (kind_of k (barriers_of (map parcel_of xs)))) (eq-eqb j k (number j k other kind h)) ∙ ap Some (its_kind j k other kind h)
  where
    number : (j k : ℕ) (other kind : BarrierKind) → Some (Barrier j other) ≡ Some (Barrier k kind) → j ≡ k
    number j k other kind e = cc

    its_kind : (j k : ℕ) (other kind : BarrierKind) → Some (Barrier j other) ≡ Some (Barrier k kind) → other ≡ kind
    its_kind j k other kind e = cc
first_kind k kind (Waits End ∷ xs) h none = absurd (other k kind h)
  where
    other : (j : ℕ) (kind : BarrierKind) → ◌≡◌ {A = Option Parcel} (Some End) (Some (Barrier j kind)) → ⊥
    other j kind e = cc

pub kind_in_line : (es : List ReceiveEntry) (hold : Bool) (k : ℕ) → GaveInLine es hold k → kind_of k (barriers_of (pushed es)) ≡ Some Inline
kind_in_line es hold k gave =
    ap (λ ps. kind_of k (barriers_of ps)) (sym (arrivals_are_pushed es)) ∙ first_kind k Inline (inbox es).arrivals (first_in_line es hold k gave) (not_polled es k gave.once)
