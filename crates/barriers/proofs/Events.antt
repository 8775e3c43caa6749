-- What the events so far tell of an alignment, kept through each event.
use Rattle.std.proofs.Common.{◌≡◌, ℕ, zero, suc, ◌+◌, ◌<◌, Bool, true, false, cond, eqb, get_or, List, [], ◌∷◌, ◌++◌, length, refl, sym, ap, ◌∙◌, subst, append_assoc, append-nil, true≢false, arith, eq-eqb, ne_eqb}
use Rattle.std.specs.Prelude.{◌||◌, ◌&&◌, replicate}
use Rattle.std.proofs.lemmas.Bool.{eqb-true, eqb-false, and_right}
use Rattle.std.proofs.lemmas.List.{length-map, length-set, length-replicate, get_or-replicate}
use Rattle.std.proofs.lemmas.Option.{slice_get_within}
use Rattle.barriers.specs.Alignments.{Barrier, Alignment, Event, Came, Saved, MayGive, MayBeSaved, MayHappen, MayAllHappen, AlignmentStandsFor, alignment_next, after_saved, event_next, after_all, unaligned, given_by, is_front, is_last, saved_with, is_last_saved}
use Rattle.barriers.specs.Laws.{numbers_of, counting, has_front, was_saved, SavesAreBehind}
use Rattle.barriers.proofs.Flags.{none_at, set_at, or_false, or_assoc, or_turned}
use Rattle.barriers.proofs.Given.{counted, opened, closing, resaved, done, number_is_next, given_counted, given_closing, gave_where_saved, given_done}

-- ---- one event more

pub numbers_of-append : (c : ℕ) (events more : List Event) → numbers_of c (events ++ more) ≡ numbers_of c events ++ numbers_of c more
numbers_of-append c [] more = refl
numbers_of-append c (Came b ∷ events) more =
    elim (eqb c b.channel) as (λ t. cond t (b.number ∷ numbers_of c (events ++ more)) (numbers_of c (events ++ more)) ≡ cond t (b.number ∷ numbers_of c events) (numbers_of c events) ++ numbers_of c more) [
      | true ↦ ap (λ ns. b.number ∷ ns) (numbers_of-append c events more)
      | false ↦ numbers_of-append c events more
    ]
numbers_of-append c (Saved i j ∷ events) more = numbers_of-append c events more

pub has_front-append : (k : ℕ) (events more : List Event) → has_front k (events ++ more) ≡ (has_front k events || has_front k more)
has_front-append k [] more = refl
has_front-append k (Came b ∷ events) more =
    ap (λ t. ((eqb b.number k) && is_front b.kind) || t) (has_front-append k events more) ∙ sym (or_assoc ((eqb b.number k) && is_front b.kind) (has_front k events) (has_front k more))
has_front-append k (Saved i j ∷ events) more = has_front-append k events more

pub was_saved-append : (c k : ℕ) (events more : List Event) → was_saved c k (events ++ more) ≡ (was_saved c k events || was_saved c k more)
was_saved-append c k [] more = refl
was_saved-append c k (Came b ∷ events) more = was_saved-append c k events more
was_saved-append c k (Saved i j ∷ events) more =
    ap (λ t. ((eqb i c) && (eqb j k)) || t) (was_saved-append c k events more) ∙ sym (or_assoc ((eqb i c) && (eqb j k)) (was_saved c k events) (was_saved c k more))

-- ---- what they tell

-- The events tell of each channel which barriers it gave and whether it was saved for the next checkpoint, and
-- whether a barrier of that checkpoint came as a front one. For later checkpoints neither came yet.
pub record Told (channels : ℕ) (events : List Event) (a : Alignment) : Type 0 where
  pub gave_of_each : length a.gave ≡ channels
  pub saved_of_each : length a.saved ≡ channels
  pub numbers : (c : ℕ) → c < channels → numbers_of c events ≡ counting (given_by a c)
  pub front : has_front (a.closed + 1) events ≡ a.saving
  pub no_later_front : (k : ℕ) → a.closed + 1 < k → has_front k events ≡ false
  pub saves : (c : ℕ) → c < channels → was_saved c (a.closed + 1) events ≡ get_or a.saved c false
  pub no_later_saves : (c k : ℕ) → a.closed + 1 < k → was_saved c k events ≡ false
  pub behind : SavesAreBehind a

-- while the task does not save, no channel is marked as saved
pub none_saved : (a : Alignment) → SavesAreBehind a → a.saving ≡ false → (c : ℕ) → get_or a.saved c false ≡ false
none_saved a behind still c =
    elim (get_or a.saved c false) as (λ t. get_or a.saved c false ≡ t → t ≡ false) [
      | true ↦ λ is. absurd (true≢false (sym (behind c is).0 ∙ still))
      | false ↦ λ isnt. refl
    ] refl

module _ (channels : ℕ) (events : List Event) (a : Alignment) (b : Barrier) (t : Told channels events a) (may : MayGive a b) where
  numbers_next : (new : Alignment) (c : ℕ) → c < channels → given_by new c ≡ cond (eqb c b.channel) b.number (given_by a c) →
      numbers_of c (events ++ Came b ∷ []) ≡ counting (given_by new c)
  numbers_next new c lt given =
      numbers_of-append c events (Came b ∷ []) ∙ ap (λ ns. ns ++ numbers_of c (Came b ∷ [])) (t.numbers c lt) ∙
      (elim (eqb c b.channel) as (λ s. eqb c b.channel ≡ s → counting (given_by a c) ++ cond s (b.number ∷ []) [] ≡ counting (cond s b.number (given_by a c))) [
        | true ↦ λ is.
            let next : b.number ≡ suc (given_by a c) = number_is_next a b may ∙ ap (λ i. suc (given_by a i)) (sym (eqb-true c b.channel is)) in
            ap (λ n. counting (given_by a c) ++ n ∷ []) next ∙ ap counting (sym next)
        | false ↦ λ isnt. append-nil (counting (given_by a c))
      ] refl) ∙ ap counting (sym given)

  pub front_next : has_front (a.closed + 1) (events ++ Came b ∷ []) ≡ (a.saving || is_front b.kind)
  front_next =
      has_front-append (a.closed + 1) events (Came b ∷ []) ∙ ap (λ x. x || has_front (a.closed + 1) (Came b ∷ [])) t.front ∙
      ap (λ x. a.saving || x) (or_false ((eqb b.number (a.closed + 1)) && is_front b.kind) ∙ ap (λ x. x && is_front b.kind) (eq-eqb b.number (a.closed + 1) may.number))

  later_front_next : (k : ℕ) → a.closed + 1 < k → has_front k (events ++ Came b ∷ []) ≡ false
  later_front_next k later =
      let number = may.number in
      has_front-append k events (Came b ∷ []) ∙ ap (λ x. x || has_front k (Came b ∷ [])) (t.no_later_front k later) ∙ or_false ((eqb b.number k) && is_front b.kind) ∙
      ap (λ x. x && is_front b.kind) (ne_eqb b.number k (λ e. omega arith))

  saves_next : (c k : ℕ) → was_saved c k (events ++ Came b ∷ []) ≡ was_saved c k events
  saves_next c k = was_saved-append c k events (Came b ∷ []) ∙ or_false (was_saved c k events)

  pub told_counted : (a.saving || is_front b.kind) ≡ a.saving → Told channels (events ++ Came b ∷ []) (counted a b)
  told_counted kept = record {
    gave_of_each = length-set a.gave b.channel true ∙ t.gave_of_each;
    saved_of_each = t.saved_of_each;
    numbers = λ c lt. numbers_next (counted a b) c lt (given_counted a b may c);
    front = front_next ∙ kept;
    no_later_front = later_front_next;
    saves = λ c lt. saves_next c (a.closed + 1) ∙ t.saves c lt;
    no_later_saves = λ c k later. saves_next c k ∙ t.no_later_saves c k later;
    behind = λ c is. let old = t.behind c is in (old.0, set_at a.gave b.channel c (slice_get_within a.gave b.channel false may.once) ∙ ap (λ x. eqb c b.channel || x) old.1 ∙ or_turned (eqb c b.channel) true);
  }

  told_opened : a.saving ≡ false → is_front b.kind ≡ true → Told channels (events ++ Came b ∷ []) (opened a b)
  told_opened still is_front = record {
    gave_of_each = length-set a.gave b.channel true ∙ t.gave_of_each;
    saved_of_each = length-map a.saved (λ x. false) ∙ t.saved_of_each;
    numbers = λ c lt. numbers_next (opened a b) c lt (given_counted a b may c);
    front = front_next ∙ ap (λ x. a.saving || x) is_front ∙ or_turned a.saving true;
    no_later_front = later_front_next;
    saves = λ c lt. saves_next c (a.closed + 1) ∙ t.saves c lt ∙ none_saved a t.behind still c ∙ sym (none_at a.saved c);
    no_later_saves = λ c k later. saves_next c k ∙ t.no_later_saves c k later;
    behind = λ c is. absurd (true≢false (sym is ∙ none_at a.saved c));
  }

  pub told_closing : a.saving ≡ false → is_last a b ≡ true → Told channels (events ++ Came b ∷ []) (closing a b)
  told_closing still last =
      let number = may.number in
      record {
        gave_of_each = length-map a.gave (λ x. false) ∙ t.gave_of_each;
        saved_of_each = t.saved_of_each;
        numbers = λ c lt. numbers_next (closing a b) c lt (given_closing a b may last c (subst (λ n. c < n) (sym t.gave_of_each) lt));
        front = later_front_next (b.number + 1) (omega arith) ∙ sym still;
        no_later_front = λ k later. later_front_next k (omega arith);
        saves = λ c lt. saves_next c (b.number + 1) ∙ t.no_later_saves c (b.number + 1) (omega arith) ∙ sym (none_saved a t.behind still c);
        no_later_saves = λ c k later. saves_next c k ∙ t.no_later_saves c k (omega arith);
        behind = λ c is. absurd (true≢false (sym is ∙ none_saved a t.behind still c));
      }

  pub told_came : Told channels (events ++ Came b ∷ []) (alignment_next a b)
  told_came =
      elim a.saving as (λ s. a.saving ≡ s → Told channels (events ++ Came b ∷ []) (cond s (counted a b) (cond (is_front b.kind) (opened a b) (cond (is_last a b) (closing a b) (counted a b))))) [
        | true ↦ λ saving. told_counted (ap (λ x. x || is_front b.kind) saving ∙ sym saving)
        | false ↦ λ still.
            elim (is_front b.kind) as (λ f. is_front b.kind ≡ f → Told channels (events ++ Came b ∷ []) (cond f (opened a b) (cond (is_last a b) (closing a b) (counted a b)))) [
              | true ↦ λ front. told_opened still front
              | false ↦ λ inline.
                  elim (is_last a b) as (λ l. is_last a b ≡ l → Told channels (events ++ Came b ∷ []) (cond l (closing a b) (counted a b))) [
                    | true ↦ λ last. told_closing still last
                    | false ↦ λ more. told_counted (ap (λ x. a.saving || x) inline ∙ or_false a.saving)
                  ] refl
            ] refl
      ] refl

module _ (channels : ℕ) (events : List Event) (a : Alignment) (channel : ℕ) (t : Told channels events a) (may : MayBeSaved a channel) where
  fronts_same : (k : ℕ) → has_front k (events ++ Saved channel (a.closed + 1) ∷ []) ≡ has_front k events
  fronts_same k = has_front-append k events (Saved channel (a.closed + 1) ∷ []) ∙ or_false (has_front k events)

  numbers_same : (c : ℕ) → numbers_of c (events ++ Saved channel (a.closed + 1) ∷ []) ≡ numbers_of c events
  numbers_same c = numbers_of-append c events (Saved channel (a.closed + 1) ∷ []) ∙ append-nil (numbers_of c events)

  eqb_turned : (c : ℕ) → eqb channel c ≡ eqb c channel
  eqb_turned c =
      elim (eqb c channel) as (λ s. eqb c channel ≡ s → eqb channel c ≡ s) [
        | true ↦ λ is. eq-eqb channel c (sym (eqb-true c channel is))
        | false ↦ λ isnt. ne_eqb channel c (λ e. eqb-false c channel isnt (sym e))
      ] refl

  -- with this channel the events tell of each whether it was saved
  pub saves_with : (c : ℕ) → c < channels → was_saved c (a.closed + 1) (events ++ Saved channel (a.closed + 1) ∷ []) ≡ get_or (saved_with a channel) c false
  saves_with c lt =
      was_saved-append c (a.closed + 1) events (Saved channel (a.closed + 1) ∷ []) ∙ ap (λ x. x || was_saved c (a.closed + 1) (Saved channel (a.closed + 1) ∷ [])) (t.saves c lt) ∙
      ap (λ x. get_or a.saved c false || ((eqb channel c && x) || false)) (eq-eqb (a.closed + 1) (a.closed + 1) refl) ∙
      ap (λ x. get_or a.saved c false || x) (or_false (eqb channel c && true) ∙ and_true (eqb channel c) ∙ eqb_turned c) ∙
      or_turned (get_or a.saved c false) (eqb c channel) ∙ sym (set_at a.saved channel c (slice_get_within a.saved channel false may.once))
    where
      and_true : (x : Bool) → (x && true) ≡ x
      and_true true = refl
      and_true false = refl

  later_saves_with : (c k : ℕ) → a.closed + 1 < k → was_saved c k (events ++ Saved channel (a.closed + 1) ∷ []) ≡ false
  later_saves_with c k later =
      was_saved-append c k events (Saved channel (a.closed + 1) ∷ []) ∙ ap (λ x. x || was_saved c k (Saved channel (a.closed + 1) ∷ [])) (t.no_later_saves c k later) ∙
      or_false ((eqb channel c) && (eqb (a.closed + 1) k)) ∙ and_right (eqb channel c) (eqb (a.closed + 1) k) (ne_eqb (a.closed + 1) k (λ e. omega arith))

  told_resaved : Told channels (events ++ Saved channel (a.closed + 1) ∷ []) (resaved a channel)
  told_resaved = record {
    gave_of_each = t.gave_of_each;
    saved_of_each = length-set a.saved channel true ∙ t.saved_of_each;
    numbers = λ c lt. numbers_same c ∙ t.numbers c lt;
    front = fronts_same (a.closed + 1) ∙ t.front;
    no_later_front = λ k later. fronts_same k ∙ t.no_later_front k later;
    saves = saves_with;
    no_later_saves = later_saves_with;
    behind = λ c is. (may.saving, gave_where_saved a channel t.behind may c is);
  }

  told_done : is_last_saved a channel ≡ true → Told channels (events ++ Saved channel (a.closed + 1) ∷ []) (done a)
  told_done last = record {
    gave_of_each = length-map a.gave (λ x. false) ∙ t.gave_of_each;
    saved_of_each = length-map a.saved (λ x. false) ∙ t.saved_of_each;
    numbers = λ c lt. numbers_same c ∙ t.numbers c lt ∙ ap counting (sym (given_done a channel t.behind may last c (subst (λ n. c < n) (sym t.saved_of_each) lt)));
    front = fronts_same (a.closed + 1 + 1) ∙ t.no_later_front (a.closed + 1 + 1) (omega arith);
    no_later_front = λ k later. fronts_same k ∙ t.no_later_front k (omega arith);
    saves = λ c lt. later_saves_with c (a.closed + 1 + 1) (omega arith) ∙ sym (none_at a.saved c);
    no_later_saves = λ c k later. later_saves_with c k (omega arith);
    behind = λ c is. absurd (true≢false (sym is ∙ none_at a.saved c));
  }

  pub told_saved : Told channels (events ++ Saved channel (a.closed + 1) ∷ []) (after_saved a channel)
  told_saved =
      elim (is_last_saved a channel) as (λ l. is_last_saved a channel ≡ l → Told channels (events ++ Saved channel (a.closed + 1) ∷ []) (cond l (done a) (resaved a channel))) [
        | true ↦ λ last. told_done last
        | false ↦ λ more. told_resaved
      ] refl

-- ---- one after another

told_next : (channels : ℕ) (events : List Event) (a : Alignment) (e : Event) → Told channels events a → MayHappen a e → Told channels (events ++ e ∷ []) (event_next a e)
told_next channels events a (Came b) t may = told_came channels events a b t may
told_next channels events a (Saved channel k) t may =
    subst (λ j. Told channels (events ++ Saved channel j ∷ []) (after_saved a channel)) (sym may.1) (told_saved channels events a channel t may.0)

told_from : (channels : ℕ) (before : List Event) (a : Alignment) (events : List Event) → Told channels before a → MayAllHappen a events → Told channels (before ++ events) (after_all a events)
told_from channels before a [] t h = subst (λ es. Told channels es a) (sym (append-nil before)) t
told_from channels before a (e ∷ events) t h =
    subst (λ es. Told channels es (after_all (event_next a e) events)) (append_assoc before (e ∷ []) events)
    (told_from channels (before ++ e ∷ []) (event_next a e) events (told_next channels before a e t h.0) h.1)

told_first : (channels : ℕ) → Told channels [] (unaligned channels)
told_first channels = record {
  gave_of_each = length-replicate channels false;
  saved_of_each = length-replicate channels false;
  numbers = λ c lt. ap (λ g. counting (0 + cond g 1 0)) (sym (get_or-replicate channels c false false lt));
  front = refl;
  no_later_front = λ k later. refl;
  saves = λ c lt. sym (get_or-replicate channels c false false lt);
  no_later_saves = λ c k later. refl;
  behind = λ c is. absurd (true≢false (sym is ∙ none_first channels c));
}
  where
    none_first : (n c : ℕ) → get_or (replicate n false) c false ≡ false
    none_first zero c = refl
    none_first (suc n) zero = refl
    none_first (suc n) (suc c) = none_first n c

pub told : (channels : ℕ) (events : List Event) (a : Alignment) → AlignmentStandsFor channels events a → Told channels events a
told channels events a h = subst (Told channels events) h.is (told_from channels [] (unaligned channels) events (told_first channels) h.may)
