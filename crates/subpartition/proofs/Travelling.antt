-- What every history of the sending end keeps.
use Rattle.std.proofs.Common.{◌≡◌, ℕ, Bool, true, false, cond, eqb, eq-eqb, ◌||◌, List, [], ◌∷◌, ◌++◌, refl, sym, ap, subst, ◌∙◌, append_assoc, append-nil, true≢false, Some}
use Rattle.std.specs.List.{list_any}
use Rattle.flow_defs.specs.declared.task.BarrierKind.{BarrierKind}
use Rattle.flow_defs.specs.declared.task.BarrierKind.TheVariants.{Inline, Front}
use Rattle.flow_defs.specs.declared.parcel.Parcel.{Parcel}
use Rattle.flow_defs.specs.declared.parcel.Parcel.TheVariants.{Data, Barrier, End}
use Rattle.flow_defs.specs.Parcels.{data_of, barriers_of, has_end}
use Rattle.flow_defs.proofs.ParcelLemmas.{data_of-append, barriers_of-append, has_end-append}
use Rattle.turn_cell.specs.History.{StartsWith}
use Rattle.subpartition.specs.declared.entry.SendEntry.{SendEntry}
use Rattle.subpartition.specs.declared.entry.SendEntry.TheVariants.{Put, PutInline, PutFront, Finish, Take, Size}
use Rattle.flow_defs.specs.Barriers.{data_before, has_barrier, is_barrier, up_to_last, behind_last, kind_of}
use Rattle.subpartition.specs.Sending.{Outbox, with_front, take_first, sent_one, sent_from, outbox, taken, parcels_put, put, put_before, barriers_put, overtaken, overtaken_from, is_finished}
use Rattle.subpartition.specs.Theorems.{DataTravelInOrder, DataAreTakenOrLeft, BarrierSplitsData, InlineOvertakesNothing, PutStays, BarriersTravelInOrder, EndTravels, TakenGrows}
use Rattle.flow_defs.proofs.BarrierLemmas.{has_barrier-append, data_before-past, data_before-within, data_before-none, bare-has_barrier, bare-barriers_of}
use Rattle.subpartition.proofs.Fronts.{cut_in_two, none_behind}

abbrev pub empty_outbox : Outbox
empty_outbox = record { taken = []; items = [] }

abbrev pub all_of : Outbox → List Parcel
all_of o = o.taken ++ o.items

-- what an entry adds
abbrev pub added : SendEntry → List Parcel
added (Put bytes) = Data bytes ∷ []
added (PutInline k) = Barrier k Inline ∷ []
added (PutFront k) = Barrier k Front ∷ []
added Finish = End ∷ []
added Take = []
added (Size n) = []

-- These parcels came in at one place, behind which no barrier stands, and before no data if they are data themselves.
pub record Grows (old new : List Parcel) (more : List Parcel) : Type 0 where
  pub front : List Parcel
  pub back : List Parcel
  pub was : old ≡ front ++ back
  pub is : new ≡ front ++ (more ++ back)
  pub bare : list_any is_barrier back ≡ false
  pub order : data_of more ++ data_of back ≡ data_of back ++ data_of more

at_end : (taken items more : List Parcel) → Grows (taken ++ items) (taken ++ (items ++ more)) more
at_end taken items more = record {
  front = taken ++ items;
  back = [];
  was = sym (append-nil (taken ++ items));
  is = sym (append_assoc taken items more) ∙ ap (λ z. (taken ++ items) ++ z) (sym (append-nil more));
  bare = refl;
  order = append-nil (data_of more);
}

at_front : (taken items : List Parcel) (k : ℕ) → Grows (taken ++ items) (taken ++ with_front k items) (Barrier k Front ∷ [])
at_front taken items k = record {
  front = taken ++ up_to_last is_barrier items;
  back = behind_last is_barrier items;
  was = ap (λ z. taken ++ z) (sym (cut_in_two is_barrier items)) ∙ sym (append_assoc taken (up_to_last is_barrier items) (behind_last is_barrier items));
  is = sym (append_assoc taken (up_to_last is_barrier items) (Barrier k Front ∷ behind_last is_barrier items));
  bare = none_behind is_barrier items;
  order = sym (append-nil (data_of (behind_last is_barrier items)));
}

unchanged : (all : List Parcel) → Grows all all []
unchanged all = record { front = all; back = []; was = sym (append-nil all); is = sym (append-nil all); bare = refl; order = refl }

taken_one : (taken items : List Parcel) → all_of (take_first taken items) ≡ taken ++ items
taken_one taken [] = refl
taken_one taken (p ∷ ps) = append_assoc taken (p ∷ []) ps

pub grows : (o : Outbox) (e : SendEntry) → Grows (all_of o) (all_of (sent_one o e)) (added e)
grows o (Put bytes) = at_end o.taken o.items (Data bytes ∷ [])
grows o (PutInline k) = at_end o.taken o.items (Barrier k Inline ∷ [])
grows o (PutFront k) = at_front o.taken o.items k
grows o Finish = at_end o.taken o.items (End ∷ [])
grows o Take = subst (λ all. Grows (all_of o) all []) (sym (taken_one o.taken o.items)) (unchanged (all_of o))
grows o (Size n) = unchanged (all_of o)

module _ {old new more : List Parcel} (g : Grows old new more) where
  pub grows-data_of : data_of new ≡ data_of old ++ data_of more
  grows-data_of =
      ap data_of g.is ∙ data_of-append g.front (more ++ g.back)
      ∙ ap (λ z. data_of g.front ++ z) (data_of-append more g.back ∙ g.order)
      ∙ sym (append_assoc (data_of g.front) (data_of g.back) (data_of more))
      ∙ ap (λ z. z ++ data_of more) (sym (ap data_of g.was ∙ data_of-append g.front g.back))

  pub grows-barriers_of : barriers_of new ≡ barriers_of old ++ barriers_of more
  grows-barriers_of =
      let none = bare-barriers_of g.back g.bare in
      ap barriers_of g.is ∙ barriers_of-append g.front (more ++ g.back)
      ∙ ap (λ z. barriers_of g.front ++ z) (barriers_of-append more g.back ∙ ap (λ z. barriers_of more ++ z) none ∙ append-nil (barriers_of more))
      ∙ ap (λ z. z ++ barriers_of more) (sym (ap barriers_of g.was ∙ barriers_of-append g.front g.back ∙ ap (λ z. barriers_of g.front ++ z) none ∙ append-nil (barriers_of g.front)))

  -- a barrier that was there stands in front of what came
  has_front : (k : ℕ) → has_barrier k old ≡ has_barrier k g.front
  has_front k =
      ap (has_barrier k) g.was ∙ has_barrier-append k g.front g.back
      ∙ ap (λ b. has_barrier k g.front || b) (bare-has_barrier k g.back g.bare) ∙ or_false (has_barrier k g.front)
    where
      or_false : (b : Bool) → (b || false) ≡ b
      or_false true = refl
      or_false false = refl

  pub grows-has_barrier : (k : ℕ) → has_barrier k new ≡ (has_barrier k old || has_barrier k more)
  grows-has_barrier k =
      ap (has_barrier k) g.is ∙ has_barrier-append k g.front (more ++ g.back)
      ∙ ap (λ b. has_barrier k g.front || b) (has_barrier-append k more g.back ∙ ap (λ b. has_barrier k more || b) (bare-has_barrier k g.back g.bare) ∙ or_false (has_barrier k more))
      ∙ ap (λ b. b || has_barrier k more) (sym (has_front k))
    where
      or_false : (b : Bool) → (b || false) ≡ b
      or_false true = refl
      or_false false = refl

  pub grows-data_before : (k : ℕ) → has_barrier k old ≡ true → data_before k new ≡ data_before k old
  grows-data_before k one =
      let there : has_barrier k g.front ≡ true = sym (has_front k) ∙ one in
      ap (data_before k) g.is ∙ data_before-within k g.front (more ++ g.back) there
      ∙ sym (ap (data_before k) g.was ∙ data_before-within k g.front g.back there)

  -- where barrier k itself came, it had all data before it but those behind its place
  pub grows-split : (k : ℕ) → has_barrier k old ≡ false → data_before k (more ++ g.back) ≡ [] → data_before k new ++ data_of g.back ≡ data_of old
  grows-split k none first =
      ap (λ z. z ++ data_of g.back) (ap (data_before k) g.is ∙ data_before-past k g.front (more ++ g.back) (sym (has_front k) ∙ none) ∙ ap (λ z. data_of g.front ++ z) first ∙ append-nil (data_of g.front))
      ∙ sym (ap data_of g.was ∙ data_of-append g.front g.back)

pub sent_from-data_of : (o : Outbox) (es : List SendEntry) → data_of (all_of (sent_from o es)) ≡ data_of (all_of o) ++ put es
sent_from-data_of o [] = sym (append-nil (data_of (all_of o)))
sent_from-data_of o (Put bytes ∷ es) =
    sent_from-data_of (sent_one o (Put bytes)) es
    ∙ ap (λ z. z ++ put es) (grows-data_of (grows o (Put bytes)) ∙ ap (λ z. data_of (all_of o) ++ z) (append-nil bytes))
    ∙ append_assoc (data_of (all_of o)) bytes (put es)
sent_from-data_of o (PutInline j ∷ es) = sent_from-data_of (sent_one o (PutInline j)) es ∙ ap (λ z. z ++ put es) (grows-data_of (grows o (PutInline j)) ∙ append-nil (data_of (all_of o)))
sent_from-data_of o (PutFront j ∷ es) = sent_from-data_of (sent_one o (PutFront j)) es ∙ ap (λ z. z ++ put es) (grows-data_of (grows o (PutFront j)) ∙ append-nil (data_of (all_of o)))
sent_from-data_of o (Finish ∷ es) = sent_from-data_of (sent_one o Finish) es ∙ ap (λ z. z ++ put es) (grows-data_of (grows o Finish) ∙ append-nil (data_of (all_of o)))
sent_from-data_of o (Take ∷ es) = sent_from-data_of (sent_one o Take) es ∙ ap (λ z. z ++ put es) (grows-data_of (grows o Take) ∙ append-nil (data_of (all_of o)))
sent_from-data_of o (Size n ∷ es) = sent_from-data_of o es

pub data_travel_in_order : DataTravelInOrder
data_travel_in_order es = sent_from-data_of empty_outbox es

-- once barrier k is there, what stands before it stays
pub sent_from-data_before : (o : Outbox) (k : ℕ) (es : List SendEntry) → has_barrier k (all_of o) ≡ true → data_before k (all_of (sent_from o es)) ≡ data_before k (all_of o)
sent_from-data_before o k [] one = refl
sent_from-data_before o k (e ∷ es) one =
    let g = grows o e in
    sent_from-data_before (sent_one o e) k es (grows-has_barrier g k ∙ ap (λ b. b || has_barrier k (added e)) one)
    ∙ grows-data_before g k one

-- no barrier k yet, and none came
still_none : (o : Outbox) (e : SendEntry) (k : ℕ) → has_barrier k (all_of o) ≡ false → has_barrier k (added e) ≡ false → has_barrier k (all_of (sent_one o e)) ≡ false
still_none o e k none other = grows-has_barrier (grows o e) k ∙ ap (λ b. b || has_barrier k (added e)) none ∙ other

at_barrier : (j k : ℕ) (kind : BarrierKind) (back : List Parcel) → eqb j k ≡ true → data_before k (Barrier j kind ∷ back) ≡ []
at_barrier j k kind back same = ap (λ b. cond b [] (data_before k back)) same

new_here : (o : Outbox) (e : SendEntry) (k : ℕ) → has_barrier k (added e) ≡ true → has_barrier k (all_of (sent_one o e)) ≡ true
new_here o e k one = grows-has_barrier (grows o e) k ∙ ap (λ b. has_barrier k (all_of o) || b) one ∙ or_true (has_barrier k (all_of o))
  where
    or_true : (b : Bool) → (b || true) ≡ true
    or_true true = refl
    or_true false = refl

-- the step at a barrier that comes with the data behind it: those are what it overtook
barrier_comes : (o : Outbox) (e : SendEntry) (j k : ℕ) (kind : BarrierKind) (es : List SendEntry) → added e ≡ Barrier j kind ∷ [] → eqb j k ≡ true → has_barrier k (all_of o) ≡ false →
    data_before k (all_of (sent_from (sent_one o e) es)) ++ data_of (grows o e).back ≡ data_of (all_of o)
barrier_comes o e j k kind es is same none =
    let back = (grows o e).back in
    let here : has_barrier k (added e) ≡ true = ap (has_barrier k) is ∙ ap (λ b. b || false) same in
    ap (λ z. z ++ data_of back) (sent_from-data_before (sent_one o e) k es (new_here o e k here))
    ∙ grows-split (grows o e) k none (ap (λ ps. data_before k (ps ++ back)) is ∙ at_barrier j k kind back same)

pub splits : (o : Outbox) (k : ℕ) (es : List SendEntry) → has_barrier k (all_of o) ≡ false →
    data_before k (all_of (sent_from o es)) ++ overtaken_from o k es ≡ data_of (all_of o) ++ put_before k es
unfolding grows at_end at_front
splits o k [] none = ap (λ z. z ++ []) (data_before-none k (all_of o) none)
splits o k (Put bytes ∷ es) none =
    splits (sent_one o (Put bytes)) k es (still_none o (Put bytes) k none refl)
    ∙ ap (λ z. z ++ put_before k es) (grows-data_of (grows o (Put bytes)) ∙ ap (λ z. data_of (all_of o) ++ z) (append-nil bytes))
    ∙ append_assoc (data_of (all_of o)) bytes (put_before k es)
splits o k (PutInline j ∷ es) none =
    let o' = sent_one o (PutInline j) in
    elim (eqb j k) as (λ b. eqb j k ≡ b → data_before k (all_of (sent_from o' es)) ++ cond b [] (overtaken_from o' k es) ≡ data_of (all_of o) ++ cond b [] (put_before k es)) [
      | true ↦ λ same. barrier_comes o (PutInline j) j k Inline es refl same none ∙ sym (append-nil (data_of (all_of o)))
      | false ↦ λ other.
          splits o' k es (still_none o (PutInline j) k none (ap (λ b. b || false) other))
          ∙ ap (λ z. z ++ put_before k es) (grows-data_of (grows o (PutInline j)) ∙ append-nil (data_of (all_of o)))
    ] refl
splits o k (PutFront j ∷ es) none =
    let o' = sent_one o (PutFront j) in
    elim (eqb j k) as (λ b. eqb j k ≡ b → data_before k (all_of (sent_from o' es)) ++ cond b (data_of (behind_last is_barrier o.items)) (overtaken_from o' k es) ≡ data_of (all_of o) ++ cond b [] (put_before k es)) [
      | true ↦ λ same. barrier_comes o (PutFront j) j k Front es refl same none ∙ sym (append-nil (data_of (all_of o)))
      | false ↦ λ other.
          splits o' k es (still_none o (PutFront j) k none (ap (λ b. b || false) other))
          ∙ ap (λ z. z ++ put_before k es) (grows-data_of (grows o (PutFront j)) ∙ append-nil (data_of (all_of o)))
    ] refl
splits o k (Finish ∷ es) none = splits (sent_one o Finish) k es (still_none o Finish k none refl) ∙ ap (λ z. z ++ put_before k es) (grows-data_of (grows o Finish) ∙ append-nil (data_of (all_of o)))
splits o k (Take ∷ es) none = splits (sent_one o Take) k es (still_none o Take k none refl) ∙ ap (λ z. z ++ put_before k es) (grows-data_of (grows o Take) ∙ append-nil (data_of (all_of o)))
splits o k (Size n ∷ es) none = splits o k es none

pub barrier_splits_data : BarrierSplitsData
barrier_splits_data es k = splits empty_outbox k es refl

pub sent_from-barriers_of : (o : Outbox) (es : List SendEntry) → barriers_of (all_of (sent_from o es)) ≡ barriers_of (all_of o) ++ barriers_put es
sent_from-barriers_of o [] = sym (append-nil (barriers_of (all_of o)))
sent_from-barriers_of o (Put bytes ∷ es) = sent_from-barriers_of (sent_one o (Put bytes)) es ∙ ap (λ z. z ++ barriers_put es) (grows-barriers_of (grows o (Put bytes)) ∙ append-nil (barriers_of (all_of o)))
sent_from-barriers_of o (PutInline j ∷ es) =
    sent_from-barriers_of (sent_one o (PutInline j)) es ∙ ap (λ z. z ++ barriers_put es) (grows-barriers_of (grows o (PutInline j)))
    ∙ append_assoc (barriers_of (all_of o)) ((j, Inline) ∷ []) (barriers_put es)
sent_from-barriers_of o (PutFront j ∷ es) =
    sent_from-barriers_of (sent_one o (PutFront j)) es ∙ ap (λ z. z ++ barriers_put es) (grows-barriers_of (grows o (PutFront j)))
    ∙ append_assoc (barriers_of (all_of o)) ((j, Front) ∷ []) (barriers_put es)
sent_from-barriers_of o (Finish ∷ es) = sent_from-barriers_of (sent_one o Finish) es ∙ ap (λ z. z ++ barriers_put es) (grows-barriers_of (grows o Finish) ∙ append-nil (barriers_of (all_of o)))
sent_from-barriers_of o (Take ∷ es) = sent_from-barriers_of (sent_one o Take) es ∙ ap (λ z. z ++ barriers_put es) (grows-barriers_of (grows o Take) ∙ append-nil (barriers_of (all_of o)))
sent_from-barriers_of o (Size n ∷ es) = sent_from-barriers_of o es

pub barriers_travel_in_order : BarriersTravelInOrder
barriers_travel_in_order es = sent_from-barriers_of empty_outbox es

no_front : Some Front ≡ Some Inline → ⊥
no_front e = cc

overtakes_nothing : (o : Outbox) (k : ℕ) (es : List SendEntry) → kind_of k (barriers_put es) ≡ Some Inline → overtaken_from o k es ≡ []
overtakes_nothing o k [] h = refl
overtakes_nothing o k (PutInline j ∷ es) h =
    elim (eqb j k) as (λ b. cond b (Some Inline) (kind_of k (barriers_put es)) ≡ Some Inline → cond b [] (overtaken_from (sent_one o (PutInline j)) k es) ≡ []) [
      | true ↦ λ e. refl
      | false ↦ λ e. overtakes_nothing (sent_one o (PutInline j)) k es e
    ] h
overtakes_nothing o k (PutFront j ∷ es) h =
    elim (eqb j k) as (λ b. cond b (Some Front) (kind_of k (barriers_put es)) ≡ Some Inline → cond b (data_of (behind_last is_barrier o.items)) (overtaken_from (sent_one o (PutFront j)) k es) ≡ []) [
      | true ↦ λ e. absurd (no_front e)
      | false ↦ λ e. overtakes_nothing (sent_one o (PutFront j)) k es e
    ] h
overtakes_nothing o k (Put bytes ∷ es) h = overtakes_nothing (sent_one o (Put bytes)) k es h
overtakes_nothing o k (Finish ∷ es) h = overtakes_nothing (sent_one o Finish) k es h
overtakes_nothing o k (Take ∷ es) h = overtakes_nothing (sent_one o Take) k es h
overtakes_nothing o k (Size n ∷ es) h = overtakes_nothing o k es h

pub inline_overtakes_nothing : InlineOvertakesNothing
inline_overtakes_nothing es k h = overtakes_nothing empty_outbox k es h

pub sent_from-append : (o : Outbox) (xs ys : List SendEntry) → sent_from o (xs ++ ys) ≡ sent_from (sent_from o xs) ys
sent_from-append o [] ys = refl
sent_from-append o (x ∷ xs) ys = sent_from-append (sent_one o x) xs ys

-- ---- what was taken stays

take_first-grows : (taken items : List Parcel) → StartsWith (take_first taken items).taken taken
take_first-grows taken [] = ([], sym (append-nil taken))
take_first-grows taken (p ∷ ps) = (p ∷ [], refl)

taken_one-grows : (o : Outbox) (e : SendEntry) → StartsWith (sent_one o e).taken o.taken
taken_one-grows o Take = take_first-grows o.taken o.items
taken_one-grows o (Put bytes) = ([], sym (append-nil o.taken))
taken_one-grows o (PutInline k) = ([], sym (append-nil o.taken))
taken_one-grows o (PutFront k) = ([], sym (append-nil o.taken))
taken_one-grows o Finish = ([], sym (append-nil o.taken))
taken_one-grows o (Size n) = ([], sym (append-nil o.taken))

taken_from-grows : (o : Outbox) (es : List SendEntry) → StartsWith (sent_from o es).taken o.taken
taken_from-grows o [] = ([], sym (append-nil o.taken))
taken_from-grows o (e ∷ es) =
    let one = taken_one-grows o e in
    let rest = taken_from-grows (sent_one o e) es in
    (one.0 ++ rest.0, rest.1 ∙ ap (λ z. z ++ rest.0) one.1 ∙ append_assoc o.taken one.0 rest.0)

pub taken_grows : TakenGrows
taken_grows es more = subst (λ (o : Outbox). StartsWith o.taken (taken es)) (sym (sent_from-append empty_outbox es more)) (taken_from-grows (outbox es) more)

-- ---- what a barrier parted stays

pub parcels_put-append : (xs ys : List SendEntry) → parcels_put (xs ++ ys) ≡ parcels_put xs ++ parcels_put ys
parcels_put-append [] ys = refl
parcels_put-append (Put bytes ∷ xs) ys = ap (λ z. Data bytes ∷ z) (parcels_put-append xs ys)
parcels_put-append (PutInline k ∷ xs) ys = ap (λ z. Barrier k Inline ∷ z) (parcels_put-append xs ys)
parcels_put-append (PutFront k ∷ xs) ys = ap (λ z. Barrier k Front ∷ z) (parcels_put-append xs ys)
parcels_put-append (Finish ∷ xs) ys = ap (λ z. End ∷ z) (parcels_put-append xs ys)
parcels_put-append (Take ∷ xs) ys = parcels_put-append xs ys
parcels_put-append (Size n ∷ xs) ys = parcels_put-append xs ys

pub put-append : (xs ys : List SendEntry) → put (xs ++ ys) ≡ put xs ++ put ys
put-append xs ys = ap data_of (parcels_put-append xs ys) ∙ data_of-append (parcels_put xs) (parcels_put ys)

pub barriers_put-append : (xs ys : List SendEntry) → barriers_put (xs ++ ys) ≡ barriers_put xs ++ barriers_put ys
barriers_put-append xs ys = ap barriers_of (parcels_put-append xs ys) ∙ barriers_of-append (parcels_put xs) (parcels_put ys)

pub is_finished-append : (xs ys : List SendEntry) → is_finished (xs ++ ys) ≡ cond (is_finished xs) true (is_finished ys)
is_finished-append xs ys = ap has_end (parcels_put-append xs ys) ∙ has_end-append (parcels_put xs) (parcels_put ys)

overtaken-stays : (o : Outbox) (k : ℕ) (es more : List SendEntry) → has_barrier k (parcels_put es) ≡ true → overtaken_from o k (es ++ more) ≡ overtaken_from o k es
overtaken-stays o k [] more h = absurd (true≢false (sym h))
overtaken-stays o k (Put bytes ∷ es) more h = overtaken-stays (sent_one o (Put bytes)) k es more h
overtaken-stays o k (PutInline j ∷ es) more h =
    elim (eqb j k) as (λ b. (b || has_barrier k (parcels_put es)) ≡ true → cond b [] (overtaken_from (sent_one o (PutInline j)) k (es ++ more)) ≡ cond b [] (overtaken_from (sent_one o (PutInline j)) k es)) [
      | true ↦ λ e. refl
      | false ↦ λ e. overtaken-stays (sent_one o (PutInline j)) k es more e
    ] h
overtaken-stays o k (PutFront j ∷ es) more h =
    elim (eqb j k) as (λ b. (b || has_barrier k (parcels_put es)) ≡ true → cond b (data_of (behind_last is_barrier o.items)) (overtaken_from (sent_one o (PutFront j)) k (es ++ more)) ≡ cond b (data_of (behind_last is_barrier o.items)) (overtaken_from (sent_one o (PutFront j)) k es)) [
      | true ↦ λ e. refl
      | false ↦ λ e. overtaken-stays (sent_one o (PutFront j)) k es more e
    ] h
overtaken-stays o k (Finish ∷ es) more h = overtaken-stays (sent_one o Finish) k es more h
overtaken-stays o k (Take ∷ es) more h = overtaken-stays (sent_one o Take) k es more h
overtaken-stays o k (Size n ∷ es) more h = overtaken-stays o k es more h

pub put_stays : PutStays
put_stays es more k h = record {
  overtaken_is = overtaken-stays empty_outbox k es more h;
  before_is = ap (data_before k) (parcels_put-append es more) ∙ data_before-within k (parcels_put es) (parcels_put more) h;
}

overtakes_last : (o : Outbox) (k : ℕ) (es : List SendEntry) → has_barrier k (parcels_put es) ≡ false → overtaken_from o k (es ++ PutFront k ∷ []) ≡ data_of (behind_last is_barrier (sent_from o es).items)
overtakes_last o k [] h = ap (λ b. cond b (data_of (behind_last is_barrier o.items)) []) (eq-eqb k k refl)
overtakes_last o k (Put bytes ∷ es) h = overtakes_last (sent_one o (Put bytes)) k es h
overtakes_last o k (PutInline j ∷ es) h =
    elim (eqb j k) as (λ b. (b || has_barrier k (parcels_put es)) ≡ false → cond b [] (overtaken_from (sent_one o (PutInline j)) k (es ++ PutFront k ∷ [])) ≡ data_of (behind_last is_barrier (sent_from (sent_one o (PutInline j)) es).items)) [
      | true ↦ λ e. absurd (true≢false e)
      | false ↦ λ e. overtakes_last (sent_one o (PutInline j)) k es e
    ] h
overtakes_last o k (PutFront j ∷ es) h =
    elim (eqb j k) as (λ b. (b || has_barrier k (parcels_put es)) ≡ false → cond b (data_of (behind_last is_barrier o.items)) (overtaken_from (sent_one o (PutFront j)) k (es ++ PutFront k ∷ [])) ≡ data_of (behind_last is_barrier (sent_from (sent_one o (PutFront j)) es).items)) [
      | true ↦ λ e. absurd (true≢false e)
      | false ↦ λ e. overtakes_last (sent_one o (PutFront j)) k es e
    ] h
overtakes_last o k (Finish ∷ es) h = overtakes_last (sent_one o Finish) k es h
overtakes_last o k (Take ∷ es) h = overtakes_last (sent_one o Take) k es h
overtakes_last o k (Size n ∷ es) h = overtakes_last o k es h

pub front_overtakes_last : (es : List SendEntry) (k : ℕ) → has_barrier k (parcels_put es) ≡ false → overtaken k (es ++ PutFront k ∷ []) ≡ data_of (behind_last is_barrier (outbox es).items)
front_overtakes_last es k none = overtakes_last empty_outbox k es none

-- ---- data that were taken, and the end

pub data_are_taken_or_left : DataAreTakenOrLeft
data_are_taken_or_left es = let o = outbox es in sym (data_travel_in_order es) ∙ data_of-append o.taken o.items

or_turn : (f m b : Bool) → cond f true (cond m true b) ≡ cond (cond f true b) true m
or_turn true m b = refl
or_turn false true true = refl
or_turn false true false = refl
or_turn false false true = refl
or_turn false false false = refl

or_in_turn : (a b c : Bool) → cond (cond a true b) true c ≡ cond a true (cond b true c)
or_in_turn true b c = refl
or_in_turn false b c = refl

or_none : (b : Bool) → cond b true false ≡ b
or_none true = refl
or_none false = refl

grows-has_end : {old new more : List Parcel} (g : Grows old new more) → has_end new ≡ cond (has_end old) true (has_end more)
grows-has_end {old} {new} {more} g =
    ap has_end g.is ∙ has_end-append g.front (more ++ g.back) ∙ ap (λ b. cond (has_end g.front) true b) (has_end-append more g.back)
    ∙ or_turn (has_end g.front) (has_end more) (has_end g.back)
    ∙ ap (λ b. cond b true (has_end more)) (sym (ap has_end g.was ∙ has_end-append g.front g.back))

added_is : (e : SendEntry) → added e ≡ parcels_put (e ∷ [])
added_is (Put bytes) = refl
added_is (PutInline k) = refl
added_is (PutFront k) = refl
added_is Finish = refl
added_is Take = refl
added_is (Size n) = refl

pub one-has_end : (o : Outbox) (e : SendEntry) → has_end (all_of (sent_one o e)) ≡ cond (has_end (all_of o)) true (is_finished (e ∷ []))
one-has_end o e = grows-has_end (grows o e) ∙ ap (λ ps. cond (has_end (all_of o)) true (has_end ps)) (added_is e)

sent_from-has_end : (o : Outbox) (es : List SendEntry) → has_end (all_of (sent_from o es)) ≡ cond (has_end (all_of o)) true (is_finished es)
sent_from-has_end o [] = sym (or_none (has_end (all_of o)))
sent_from-has_end o (e ∷ es) =
    sent_from-has_end (sent_one o e) es ∙ ap (λ b. cond b true (is_finished es)) (one-has_end o e)
    ∙ or_in_turn (has_end (all_of o)) (is_finished (e ∷ [])) (is_finished es)
    ∙ ap (λ b. cond (has_end (all_of o)) true b) (sym (is_finished-append (e ∷ []) es))

pub end_travels : EndTravels
end_travels es = sent_from-has_end empty_outbox es

-- One more entry, where it adds nothing.
pub none_added : (o : Outbox) (e : SendEntry) → added e ≡ [] → all_of (sent_one o e) ≡ all_of o
none_added o e none = let g = grows o e in g.is ∙ ap (λ ps. g.front ++ (ps ++ g.back)) none ∙ sym g.was
