-- What a history saves: the rest, and the data before a barrier that were not polled when its save was opened.
use Rattle.std.proofs.Common.{◌≡◌, ℕ, Bool, true, false, cond, eqb, eqb-true, eq-eqb, ◌||◌, List, [], ◌∷◌, ◌++◌, map, refl, sym, ap, ◌∙◌, append_assoc, append-nil, true≢false}
use Rattle.std.proofs.lemmas.List.{map-append}
use Rattle.flow_defs.specs.declared.parcel.Parcel.{Parcel}
use Rattle.flow_defs.specs.declared.parcel.Parcel.TheVariants.{Data, Barrier, End}
use Rattle.flow_defs.specs.Parcels.{data_of}
use Rattle.flow_defs.specs.Barriers.{data_before, has_barrier}
use Rattle.input_channel.specs.declared.entry.ReceiveEntry.{ReceiveEntry}
use Rattle.input_channel.specs.declared.entry.ReceiveEntry.TheVariants.{Push, Save}
use Rattle.input_channel.specs.Inboxes.{Arrived, WasPolled, Waits, Inbox, empty_inbox, received_one, received_from, inbox, pushed, parcel_of, waiting_before, saved_from, saved, has_save}
use Rattle.input_channel.specs.Legal.{MaySave}
use Rattle.input_channel.specs.Theorems.{SavedCompletesPolled, SavedStays, SavesAreLegal}
use Rattle.input_channel.proofs.InboxLaws.{arrivals_are_pushed, pushed-append}
use Rattle.input_channel.proofs.DataLaws.{later-parcels, at_moment}

-- ---- a save in a history

-- what the first save for barrier k saves
pub saved_from-append : (i : Inbox) (k : ℕ) (before after : List ReceiveEntry) (rest : List ℕ) → has_save k before ≡ false →
    saved_from i k (before ++ Save k rest ∷ after) ≡ rest ++ waiting_before k ((received_from i before).arrivals ++ map Waits (pushed after))
saved_from-append i k [] after rest once = ap (λ b. cond b (rest ++ waiting_before k (i.arrivals ++ map Waits (pushed after))) (saved_from i k after)) (eq-eqb k k refl)
saved_from-append i k (Save j other ∷ before) after rest once =
    elim (eqb j k) as (λ b. (b || has_save k before) ≡ false → cond b (other ++ waiting_before k (i.arrivals ++ map Waits (pushed (before ++ Save k rest ∷ after)))) (saved_from i k (before ++ Save k rest ∷ after)) ≡ rest ++ waiting_before k ((received_from i before).arrivals ++ map Waits (pushed after))) [
      | true ↦ λ h. absurd (true≢false h)
      | false ↦ λ h. saved_from-append i k before after rest h
    ] once
saved_from-append i k (e ∷ before) after rest once = saved_from-append (received_one i e) k before after rest once

or_true : (b : Bool) → (b || true) ≡ true
or_true true = refl
or_true false = refl

pub has_save-there : (k : ℕ) (before after : List ReceiveEntry) (rest : List ℕ) → has_save k (before ++ Save k rest ∷ after) ≡ true
has_save-there k [] after rest = ap (λ b. b || has_save k after) (eq-eqb k k refl)
has_save-there k (Save j other ∷ before) after rest = ap (λ b. eqb j k || b) (has_save-there k before after rest) ∙ or_true (eqb j k)
has_save-there k (e ∷ before) after rest = has_save-there k before after rest

-- where it stands
pub record HasSave (k : ℕ) (es : List ReceiveEntry) : Type 0 where
  pub before : List ReceiveEntry
  pub rest : List ℕ
  pub after : List ReceiveEntry
  pub whole : es ≡ before ++ Save k rest ∷ after
  pub once : has_save k before ≡ false

behind_one : (k : ℕ) (e : ReceiveEntry) (es : List ReceiveEntry) → has_save k (e ∷ []) ≡ false → ((before : List ReceiveEntry) → has_save k (e ∷ before) ≡ (has_save k (e ∷ []) || has_save k before)) → HasSave k es → HasSave k (e ∷ es)
behind_one k e es other grows s = record {
  before = e ∷ s.before;
  rest = s.rest;
  after = s.after;
  whole = ap (λ z. e ∷ z) s.whole;
  once = grows s.before ∙ ap (λ b. b || has_save k s.before) other ∙ s.once;
}

or_false : (b : Bool) → (b || false) ≡ b
or_false true = refl
or_false false = refl

or_first : (a b : Bool) → (a || b) ≡ ((a || false) || b)
or_first a b = ap (λ c. c || b) (sym (or_false a))

pub split_save : (k : ℕ) (es : List ReceiveEntry) → has_save k es ≡ true → HasSave k es
split_save k [] h = absurd (true≢false (sym h))
split_save k (Save j rest ∷ es) h =
    elim (eqb j k) as (λ b. eqb j k ≡ b → (b || has_save k es) ≡ true → HasSave k (Save j rest ∷ es)) [
      | true ↦ λ same e. record { before = []; rest = rest; after = es; whole = ap (λ i. Save i rest ∷ es) (eqb-true j k same); once = refl }
      | false ↦ λ other e. behind_one k (Save j rest) es (ap (λ b. b || false) other) (λ before. or_first (eqb j k) (has_save k before)) (split_save k es e)
    ] refl h
split_save k (e ∷ es) h = behind_one k e es refl (λ before. refl) (split_save k es h)

pub has_save-more : (k : ℕ) (es more : List ReceiveEntry) → has_save k es ≡ true → has_save k (es ++ more) ≡ true
has_save-more k es more has =
    let s = split_save k es has in
    ap (λ z. has_save k (z ++ more)) s.whole ∙ ap (has_save k) (append_assoc s.before (Save k s.rest ∷ s.after) more) ∙ has_save-there k s.before (s.after ++ more) s.rest

-- ---- entries that come later

-- the data of a parcel that comes where barrier k has not
abbrev pub comes : ℕ → List Parcel → Parcel → List ℕ
comes k ps p = cond (has_barrier k ps) [] (data_of (p ∷ []))

pub waiting_before-more : (k : ℕ) (xs : List Arrived) (p : Parcel) → waiting_before k (xs ++ Waits p ∷ []) ≡ waiting_before k xs ++ comes k (map parcel_of xs) p
waiting_before-more k [] (Data bytes) = refl
waiting_before-more k [] (Barrier j kind) = elim (eqb j k) as (λ b. ◌≡◌ {A = List ℕ} (cond b [] []) []) [ true ↦ refl | false ↦ refl ]
waiting_before-more k [] End = refl
waiting_before-more k (WasPolled (Data bytes) ∷ xs) p = waiting_before-more k xs p
waiting_before-more k (WasPolled (Barrier j kind) ∷ xs) p =
    elim (eqb j k) as (λ b. cond b [] (waiting_before k (xs ++ Waits p ∷ [])) ≡ cond b [] (waiting_before k xs) ++ cond (b || has_barrier k (map parcel_of xs)) [] (data_of (p ∷ []))) [ true ↦ refl | false ↦ waiting_before-more k xs p ]
waiting_before-more k (WasPolled End ∷ xs) p = waiting_before-more k xs p
waiting_before-more k (Waits (Data bytes) ∷ xs) p = ap (λ z. bytes ++ z) (waiting_before-more k xs p) ∙ sym (append_assoc bytes (waiting_before k xs) (cond (has_barrier k (map parcel_of xs)) [] (data_of (p ∷ []))))
waiting_before-more k (Waits (Barrier j kind) ∷ xs) p =
    elim (eqb j k) as (λ b. cond b [] (waiting_before k (xs ++ Waits p ∷ [])) ≡ cond b [] (waiting_before k xs) ++ cond (b || has_barrier k (map parcel_of xs)) [] (data_of (p ∷ []))) [ true ↦ refl | false ↦ waiting_before-more k xs p ]
waiting_before-more k (Waits End ∷ xs) p = waiting_before-more k xs p

waiting_before-within : (k : ℕ) (xs : List Arrived) (ps : List Parcel) → has_barrier k (map parcel_of xs) ≡ true → waiting_before k (xs ++ map Waits ps) ≡ waiting_before k xs
waiting_before-within k [] ps h = absurd (true≢false (sym h))
waiting_before-within k (WasPolled (Data bytes) ∷ xs) ps h = waiting_before-within k xs ps h
waiting_before-within k (Waits (Data bytes) ∷ xs) ps h = ap (λ z. bytes ++ z) (waiting_before-within k xs ps h)
waiting_before-within k (WasPolled (Barrier j kind) ∷ xs) ps h =
    elim (eqb j k) as (λ b. (b || has_barrier k (map parcel_of xs)) ≡ true → cond b [] (waiting_before k (xs ++ map Waits ps)) ≡ cond b [] (waiting_before k xs)) [ true ↦ λ e. refl | false ↦ λ e. waiting_before-within k xs ps e ] h
waiting_before-within k (Waits (Barrier j kind) ∷ xs) ps h =
    elim (eqb j k) as (λ b. (b || has_barrier k (map parcel_of xs)) ≡ true → cond b [] (waiting_before k (xs ++ map Waits ps)) ≡ cond b [] (waiting_before k xs)) [ true ↦ λ e. refl | false ↦ λ e. waiting_before-within k xs ps e ] h
waiting_before-within k (WasPolled End ∷ xs) ps h = waiting_before-within k xs ps h
waiting_before-within k (Waits End ∷ xs) ps h = waiting_before-within k xs ps h

-- what was saved, where a save stands
saved_at : (k : ℕ) (es : List ReceiveEntry) (s : HasSave k es) → saved k es ≡ s.rest ++ waiting_before k ((inbox s.before).arrivals ++ map Waits (pushed s.after))
saved_at k es s = ap (saved k) s.whole ∙ saved_from-append empty_inbox k s.before s.after s.rest s.once

saved_later : (k : ℕ) (es more : List ReceiveEntry) (s : HasSave k es) → saved k (es ++ more) ≡ s.rest ++ waiting_before k ((inbox s.before).arrivals ++ map Waits (pushed s.after ++ pushed more))
saved_later k es more s =
    ap (λ z. saved k (z ++ more)) s.whole ∙ ap (saved k) (append_assoc s.before (Save k s.rest ∷ s.after) more)
    ∙ saved_from-append empty_inbox k s.before (s.after ++ more) s.rest s.once
    ∙ ap (λ ps. s.rest ++ waiting_before k ((inbox s.before).arrivals ++ map Waits ps)) (pushed-append s.after more)

-- all that arrived, in parts
arrived_there : (k : ℕ) (es : List ReceiveEntry) (s : HasSave k es) → map parcel_of ((inbox s.before).arrivals ++ map Waits (pushed s.after)) ≡ pushed es
arrived_there k es s =
    later-parcels (inbox s.before).arrivals (pushed s.after) ∙ ap (λ ps. ps ++ pushed s.after) (arrivals_are_pushed s.before)
    ∙ sym (ap pushed s.whole ∙ pushed-append s.before (Save k s.rest ∷ s.after))

-- an entry that pushes nothing leaves what is saved
pub saved-same : (k : ℕ) (es : List ReceiveEntry) (e : ReceiveEntry) → has_save k es ≡ true → pushed (e ∷ []) ≡ [] → saved k (es ++ e ∷ []) ≡ saved k es
saved-same k es e has none =
    let s = split_save k es has in
    saved_later k es (e ∷ []) s
    ∙ ap (λ ps. s.rest ++ waiting_before k ((inbox s.before).arrivals ++ map Waits ps)) (ap (λ z. pushed s.after ++ z) none ∙ append-nil (pushed s.after))
    ∙ sym (saved_at k es s)

-- one that pushes adds its data, where the barrier has not come
pub saved-more : (k : ℕ) (es : List ReceiveEntry) (p : Parcel) (backlog : ℕ) → has_save k es ≡ true → saved k (es ++ Push p backlog ∷ []) ≡ saved k es ++ comes k (pushed es) p
saved-more k es p backlog has =
    let s = split_save k es has in
    let xs = (inbox s.before).arrivals in
    let old = xs ++ map Waits (pushed s.after) in
    saved_later k es (Push p backlog ∷ []) s
    ∙ ap (λ z. s.rest ++ waiting_before k (xs ++ z)) (map-append Waits (pushed s.after) (p ∷ []))
    ∙ ap (λ z. s.rest ++ waiting_before k z) (sym (append_assoc xs (map Waits (pushed s.after)) (Waits p ∷ [])))
    ∙ ap (λ z. s.rest ++ z) (waiting_before-more k old p)
    ∙ sym (append_assoc s.rest (waiting_before k old) (comes k (map parcel_of old) p))
    ∙ ap (λ ps. (s.rest ++ waiting_before k old) ++ comes k ps p) (arrived_there k es s)
    ∙ ap (λ z. z ++ comes k (pushed es) p) (sym (saved_at k es s))

-- ---- the laws

pub saved_completes_polled : SavedCompletesPolled
saved_completes_polled es before after k rest kept closed given =
    let late = waiting_before k ((inbox before).arrivals ++ map Waits (pushed after)) in
    ap (λ l. kept ++ saved k l) closed.whole ∙ ap (λ z. kept ++ z) (saved_from-append empty_inbox k before after rest closed.once)
    ∙ sym (append_assoc kept rest late) ∙ ap (λ z. z ++ late) (sym given)
    ∙ at_moment before after k closed.in_time
    ∙ ap (data_before k) (sym (ap pushed closed.whole ∙ pushed-append before (Save k rest ∷ after)))

pub saved_stays : SavedStays
saved_stays es more k has came =
    let s = split_save k es has in
    let xs = (inbox s.before).arrivals in
    let there : has_barrier k (map parcel_of (xs ++ map Waits (pushed s.after))) ≡ true = ap (has_barrier k) (arrived_there k es s) ∙ came in
    saved_later k es more s
    ∙ ap (λ z. s.rest ++ waiting_before k (xs ++ z)) (map-append Waits (pushed s.after) (pushed more))
    ∙ ap (λ z. s.rest ++ waiting_before k z) (sym (append_assoc xs (map Waits (pushed s.after)) (map Waits (pushed more))))
    ∙ ap (λ z. s.rest ++ z) (waiting_before-within k (xs ++ map Waits (pushed s.after)) (pushed more) there)
    ∙ sym (saved_at k es s)

pub saves_are_legal : SavesAreLegal
saves_are_legal room es before after k rest legal whole =
    let may : MaySave before k rest = legal before after (Save k rest) whole in
    record { whole = whole; once = may.once; in_time = may.in_time }
