-- The queue of places, as a reader is put in another's place.
use Rattle.std.proofs.Common.{◌≡◌, ℕ, ◌+◌, ◌<◌, ◌≤◌, Bool, true, false, not, cond, eqb, List, [], ◌∷◌, ◌++◌, length, drop, map, get_or, set, Some, None, refl, sym, ap, subst, ◌∙◌, arith, inl, inr}
use Rattle.std.specs.Prelude.{All, filter, slice_get}
use Rattle.std.proofs.lemmas.Bool.{eq-eqb, ne_eqb, cases_eq, cases_lt, cases_order, false≢true}
use Rattle.std.proofs.lemmas.List.{get_or-set_same, get_or-set_other, get_or_default, get_or_past, length-set, length_push, map-append, append-nil}
use Rattle.std.proofs.lemmas.Option.{none-some, same_Some}
use Rattle.std.proofs.lemmas.List.Elements.{All-set}
use Rattle.std.proofs.lemmas.List.Sums.{sum_by-set, get_or-le-sum_by, count_by-le-length}
use Rattle.flow_defs.specs.declared.task.ChannelId.{ChannelId}
use Rattle.credit_reader.specs.declared.reader.Reader.{Reader}
use Rattle.credit_reader.specs.Readers.{fresh, can_send, KeepsRanges}
use Rattle.credit_reader.specs.Senders.{Sender, is_same, queue_after}
use Rattle.circular_buffer.specs.Buffer.{Buffer, buffer}
use Rattle.credit_reader.specs.Places.{reader_at, channel_at, HaveOwnChannels, IsQueue, Fits, seen, put_at, turned_at, places_after}
use Rattle.credit_reader.proofs.Lists.{one_if, count, without, count_cons, count_push, count_without_same, count_without_other, length_without, count_first}
use Rattle.credit_reader.proofs.Channels.{is_same_of, is_other}

-- ---- the readers

abbrev pub nobody : Reader
nobody = fresh (record { edge = 0; from = 0; to = 0 })

pub at_default : (rs : List Reader) (j : ℕ) (d : Reader) → j < length rs → get_or rs j d ≡ reader_at rs j
at_default rs j d lt = get_or_default rs j d _ lt

pub put_same : (rs : List Reader) (i : ℕ) (new : Reader) → i < length rs → reader_at (set rs i new) i ≡ new
put_same rs i new lt = get_or-set_same rs i new _ lt

pub put_other : (rs : List Reader) (i j : ℕ) (new : Reader) → (j ≡ i → ⊥) → reader_at (set rs i new) j ≡ reader_at rs j
put_other rs i j new other = get_or-set_other rs i j new _ other

pub own_place : (rs : List Reader) → HaveOwnChannels rs → (a b : ℕ) → a < length rs → b < length rs → channel_at rs a ≡ channel_at rs b → a ≡ b
own_place rs own a b a_in b_in same = elim (cases_order a b) [
  | inl is ↦ is
  | inr apart ↦ elim apart [
    | inl less ↦ absurd (own a b _ less b_in same)
    | inr more ↦ absurd (own b a _ more a_in (sym same))
  ]
]

module _ (rs : List Reader) (i : ℕ) (new : Reader) (in_range : i < length rs) (same : channel_at rs i ≡ new.channel) where
  pub channels_stay : (j : ℕ) → channel_at (set rs i new) j ≡ channel_at rs j
  channels_stay j = elim (cases_eq j i) [
    | inl is ↦ subst (λ k. channel_at (set rs i new) k ≡ channel_at rs k) (sym is) (ap (λ (r : Reader). r.channel) (put_same rs i new in_range) ∙ sym same)
    | inr other ↦ ap (λ (r : Reader). r.channel) (put_other rs i j new other)
  ]

  pub map_channels_stay : (places : List ℕ) → map (channel_at (set rs i new)) places ≡ map (channel_at rs) places
  map_channels_stay [] = refl
  map_channels_stay (p ∷ places) = ap (λ c. c ∷ map (channel_at (set rs i new)) places) (channels_stay p) ∙ ap (λ cs. channel_at rs p ∷ cs) (map_channels_stay places)

  own_channels_stay : HaveOwnChannels rs → HaveOwnChannels (set rs i new)
  own_channels_stay own = λ a b d less b_in is.
      let b_there : b < length rs = omega (arith, length-set rs i new) in
      let a_in : a < length (set rs i new) = omega arith in
      own a b d less b_there (
      ap (λ (r : Reader). r.channel) (at_default rs a d (omega arith)) ∙ sym (channels_stay a)
      ∙ ap (λ (r : Reader). r.channel) (sym (at_default (set rs i new) a d a_in)) ∙ is ∙ ap (λ (r : Reader). r.channel) (at_default (set rs i new) b d b_in)
      ∙ channels_stay b ∙ ap (λ (r : Reader). r.channel) (sym (at_default rs b d b_there)))

  module _ (ranges : KeepsRanges new) (places : List ℕ) (capacity : ℕ) (queue : IsQueue rs places capacity) where
    -- a queue in which only the place that is put changed, and stands as the new reader asks
    stays_queue : (after : List ℕ) → ((j : ℕ) → (j ≡ i → ⊥) → count j after ≡ count j places) → count i after ≡ one_if (can_send new)
        → length after + one_if (can_send (reader_at rs i)) ≡ length places + one_if (can_send new) → IsQueue (set rs i new) after capacity
    stays_queue after others here number = record {
      distinct = own_channels_stay queue.distinct;
      ranges = All-set KeepsRanges rs i new ranges queue.ranges;
      once = λ j. elim (cases_eq j i) [
        | inl is ↦ subst (λ k. count k after ≡ one_if (can_send (reader_at (set rs i new) k))) (sym is) (here ∙ ap (λ r. one_if (can_send r)) (sym (put_same rs i new in_range)))
        | inr other ↦ others j other ∙ queue.once j ∙ ap (λ r. one_if (can_send r)) (sym (put_other rs i j new other))
      ];
      number = omega (arith, number, queue.number, sum_by-set (λ r. one_if (can_send r)) rs i new nobody in_range);
      room = omega (arith, length-set rs i new, queue.room);
    }

    put_cases : (was now : Bool) → can_send (reader_at rs i) ≡ was → can_send new ≡ now → IsQueue (set rs i new) (places_after i was now places) capacity
    put_cases true true was_is now_is =
        stays_queue places (λ j other. refl) (queue.once i ∙ ap one_if (was_is ∙ sym now_is)) (ap (λ b. length places + one_if b) (was_is ∙ sym now_is))
    put_cases true false was_is now_is =
        let here : count i places ≡ 1 = queue.once i ∙ ap one_if was_is in
        let was_one : one_if (can_send (reader_at rs i)) ≡ 1 = ap one_if was_is in
        let now_none : one_if (can_send new) ≡ 0 = ap one_if now_is in
        stays_queue (without i places) (λ j other. count_without_other i j (λ e. other (sym e)) places) (count_without_same i places ∙ sym now_none)
        (omega (arith, length_without i places, here, was_one, now_none))
    put_cases false true was_is now_is =
        let here : count i places ≡ 0 = queue.once i ∙ ap one_if was_is in
        let was_none : one_if (can_send (reader_at rs i)) ≡ 0 = ap one_if was_is in
        let now_one : one_if (can_send new) ≡ 1 = ap one_if now_is in
        let self_one : one_if (eqb i i) ≡ 1 = ap one_if (eq-eqb i i refl) in
        stays_queue (places ++ i ∷ [])
        (λ j other. let none : one_if (eqb i j) ≡ 0 = ap one_if (ne_eqb i j (λ e. other (sym e))) in omega (arith, count_push j i places, none))
        (omega (arith, count_push i i places, here, self_one, now_one))
        (omega (arith, length_push places i, was_none, now_one))
    put_cases false false was_is now_is =
        stays_queue places (λ j other. refl) (queue.once i ∙ ap one_if (was_is ∙ sym now_is)) (ap (λ b. length places + one_if b) (was_is ∙ sym now_is))

    pub put_queue : IsQueue (set rs i new) (places_after i (can_send (reader_at rs i)) (can_send new) places) capacity
    put_queue = put_cases _ _ refl refl

-- ---- the places of a queue

one_if_at_least : (b : Bool) → 1 ≤ one_if b → b ≡ true
one_if_at_least true le = refl
one_if_at_least false le = absurd (omega arith)

module _ (rs : List Reader) (places : List ℕ) (capacity : ℕ) (queue : IsQueue rs places capacity) where
  pub there_can : (p : ℕ) → 1 ≤ count p places → can_send (reader_at rs p) ≡ true
  there_can p there = one_if_at_least _ (omega (arith, queue.once p))

  pub there_within : (p : ℕ) → 1 ≤ count p places → p < length rs
  there_within p there = elim (cases_lt p (length rs)) [
    | inl less ↦ less
    | inr past ↦ absurd (false≢true (sym (ap can_send (get_or_past rs p _ past)) ∙ there_can p there))
  ]

  pub queue_fits : length places ≤ capacity
  queue_fits = omega (arith, queue.number, queue.room, count_by-le-length can_send rs)

  pub room_for : (i : ℕ) (new : Reader) → i < length rs → can_send (reader_at rs i) ≡ false → can_send new ≡ true → length places < capacity
  room_for i new in_range was_is now_is =
      let was_none : one_if (can_send (reader_at rs i)) ≡ 0 = ap one_if was_is in
      let now_one : one_if (can_send new) ≡ 1 = ap one_if now_is in
      omega (arith, queue.number, queue.room, count_by-le-length can_send (set rs i new), length-set rs i new, was_none, now_one, sum_by-set (λ r. one_if (can_send r)) rs i new nobody in_range)

-- the queue in which the first reader is put again, and goes to the back or leaves
pub turned_queue : (rs : List Reader) (i : ℕ) (new : Reader) → i < length rs → channel_at rs i ≡ new.channel → KeepsRanges new → (rest : List ℕ) (capacity : ℕ)
    → IsQueue rs (i ∷ rest) capacity → (now : Bool) → can_send new ≡ now → IsQueue (set rs i new) (rest ++ cond now (i ∷ []) []) capacity
turned_queue rs i new in_range same ranges rest capacity queue now now_is =
    let was : one_if (can_send (reader_at rs i)) ≡ 1 = ap one_if (there_can rs (i ∷ rest) capacity queue i (count_first i rest)) in
    let self_one : one_if (eqb i i) ≡ 1 = ap one_if (eq-eqb i i refl) in
    let gone : count i rest ≡ 0 = omega (arith, queue.once i, count_cons i i rest) in
    let other_count : (j : ℕ) → (j ≡ i → ⊥) → count j (i ∷ rest) ≡ count j rest = λ j other. let none : one_if (eqb i j) ≡ 0 = ap one_if (ne_eqb i j (λ e. other (sym e))) in omega (arith, count_cons j i rest, none) in
    elim now as (λ b. can_send new ≡ b → IsQueue (set rs i new) (rest ++ cond b (i ∷ []) []) capacity) [
      | true ↦ λ is. let now_one : one_if (can_send new) ≡ 1 = ap one_if is in
          stays_queue rs i new in_range same ranges (i ∷ rest) capacity queue (rest ++ i ∷ [])
          (λ j other. let none : one_if (eqb i j) ≡ 0 = ap one_if (ne_eqb i j (λ e. other (sym e))) in omega (arith, count_push j i rest, other_count j other, none))
          (omega (arith, count_push i i rest, gone, self_one, now_one)) (omega (arith, length_push rest i, was, now_one))
      | false ↦ λ is. let now_none : one_if (can_send new) ≡ 0 = ap one_if is in
          subst (λ ps. IsQueue (set rs i new) ps capacity) (sym (append-nil rest))
          (stays_queue rs i new in_range same ranges (i ∷ rest) capacity queue rest (λ j other. sym (other_count j other)) (omega (arith, gone, now_none)) (omega (arith, was, now_none)))
    ] now_is

-- ---- the queue as callers see it

module _ (rs : List Reader) (own : HaveOwnChannels rs) (i : ℕ) (in_range : i < length rs) where
  pub same_test : (p : ℕ) → p < length rs → is_same (channel_at rs p) (channel_at rs i) ≡ eqb p i
  same_test p p_in = elim (cases_eq p i) [
    | inl is ↦ is_same_of _ _ (ap (channel_at rs) is) ∙ sym (eq-eqb p i is)
    | inr other ↦ is_other _ _ (λ same. other (own_place rs own p i p_in in_range same)) ∙ sym (ne_eqb p i other)
  ]

  map_without : (places : List ℕ) → ((p : ℕ) → 1 ≤ count p places → p < length rs) → map (channel_at rs) (without i places) ≡ filter (λ d. not (is_same d (channel_at rs i))) (map (channel_at rs) places)
  map_without [] within = refl
  map_without (p ∷ places) within =
      let rest = map_without places (λ q there. within q (omega (arith, count_cons q p places))) in
      let test = same_test p (within p (count_first p places)) in
      elim (eqb p i) as (λ b. eqb p i ≡ b → map (channel_at rs) (cond (not b) (p ∷ without i places) (without i places)) ≡ filter (λ d. not (is_same d (channel_at rs i))) (channel_at rs p ∷ map (channel_at rs) places)) [
        | true ↦ λ is. rest ∙ sym (ap (λ b. cond (not b) (channel_at rs p ∷ filter (λ d. not (is_same d (channel_at rs i))) (map (channel_at rs) places)) (filter (λ d. not (is_same d (channel_at rs i))) (map (channel_at rs) places))) (test ∙ is))
        | false ↦ λ is. ap (λ cs. channel_at rs p ∷ cs) rest ∙ sym (ap (λ b. cond (not b) (channel_at rs p ∷ filter (λ d. not (is_same d (channel_at rs i))) (map (channel_at rs) places)) (filter (λ d. not (is_same d (channel_at rs i))) (map (channel_at rs) places))) (test ∙ is))
      ] refl

  pub map_places_after : (was now : Bool) (places : List ℕ) → ((p : ℕ) → 1 ≤ count p places → p < length rs) → map (channel_at rs) (places_after i was now places) ≡ queue_after (channel_at rs i) was now (map (channel_at rs) places)
  map_places_after true true places within = refl
  map_places_after true false places within = map_without places within
  map_places_after false true places within = map-append (channel_at rs) places (i ∷ [])
  map_places_after false false places within = refl

-- ---- what `put` and `turn` leave

abbrev pub sender : List Reader → List ChannelId → Sender
sender rs cs = record { readers = rs; queue = cs }

module _ (rs : List Reader) (places : List ℕ) (capacity : ℕ) (queue : IsQueue rs places capacity) (i : ℕ) (new : Reader) (fits : Fits (seen rs places) i new) (b : Buffer ℕ) where
  pub put_done : (was now : Bool) → was ≡ can_send (reader_at rs i) → now ≡ can_send new → b ≡ buffer (places_after i was now places) capacity
      → IsQueue (set rs i new) b.items b.capacity × (seen (set rs i new) b.items ≡ put_at i new (seen rs places))
  put_done was now was_is now_is is =
      let items_are : b.items ≡ places_after i (can_send (reader_at rs i)) (can_send new) places = ap (λ (v : Buffer ℕ). v.items) is ∙ ap (λ w. places_after i w now places) was_is ∙ ap (λ n. places_after i (can_send (reader_at rs i)) n places) now_is in
      let room_is : b.capacity ≡ capacity = ap (λ (v : Buffer ℕ). v.capacity) is in (
        subst (λ n. IsQueue (set rs i new) b.items n) (sym room_is) (subst (λ ps. IsQueue (set rs i new) ps capacity) (sym items_are) (put_queue rs i new fits.within fits.channel_is fits.ranges places capacity queue)),
        ap (λ cs. sender (set rs i new) cs) (
            ap (map (channel_at (set rs i new))) items_are
            ∙ map_channels_stay rs i new fits.within fits.channel_is _
            ∙ map_places_after rs queue.distinct i fits.within _ _ places (there_within rs places capacity queue)
            ∙ ap (λ c. queue_after c (can_send (reader_at rs i)) (can_send new) (map (channel_at rs) places)) fits.channel_is),
      )

  -- the same where the place was first in the queue
  turn_cut : (ps : List ℕ) → IsQueue rs ps capacity → slice_get (map (channel_at rs) ps) 0 ≡ Some new.channel → (now : Bool) → now ≡ can_send new → b ≡ buffer (drop 1 ps ++ cond now (i ∷ []) []) capacity
      → IsQueue (set rs i new) b.items b.capacity × (seen (set rs i new) b.items ≡ turned_at i new (seen rs ps))
  turn_cut [] q first now now_is is = absurd (none-some _ first)
  turn_cut (p ∷ rest) q first now now_is is =
      let p_is : p ≡ i = own_place rs q.distinct p i (there_within rs (p ∷ rest) capacity q p (count_first p rest)) fits.within (same_Some _ _ first ∙ sym fits.channel_is) in
      let after = rest ++ cond now (i ∷ []) [] in
      let items_are : b.items ≡ after = ap (λ (v : Buffer ℕ). v.items) is in
      let room_is : b.capacity ≡ capacity = ap (λ (v : Buffer ℕ). v.capacity) is in
      let holds : IsQueue (set rs i new) after capacity = turned_queue rs i new fits.within fits.channel_is fits.ranges rest capacity (subst (λ k. IsQueue rs (k ∷ rest) capacity) p_is q) now (sym now_is) in (
        subst (λ n. IsQueue (set rs i new) b.items n) (sym room_is) (subst (λ ps. IsQueue (set rs i new) ps capacity) (sym items_are) holds),
        ap (λ cs. sender (set rs i new) cs) (
            ap (map (channel_at (set rs i new))) items_are
            ∙ map_channels_stay rs i new fits.within fits.channel_is after
            ∙ map-append (channel_at rs) rest (cond now (i ∷ []) [])
            ∙ ap (λ cs. map (channel_at rs) rest ++ cs) (map_last now ∙ ap (λ n. cond n (new.channel ∷ []) []) now_is)),
      ) where
        map_last : (n : Bool) → map (channel_at rs) (cond n (i ∷ []) []) ≡ cond n (new.channel ∷ []) []
        map_last true = ap (λ c. c ∷ []) fits.channel_is
        map_last false = refl

  pub turn_done : (now : Bool) → now ≡ can_send new → slice_get (map (channel_at rs) places) 0 ≡ Some new.channel → b ≡ buffer (drop 1 places ++ cond now (i ∷ []) []) capacity
      → IsQueue (set rs i new) b.items b.capacity × (seen (set rs i new) b.items ≡ turned_at i new (seen rs places))
  turn_done now now_is first is = turn_cut places queue first now now_is is

-- ---- the first place

pub place_first : (rs : List Reader) (places : List ℕ) (capacity : ℕ) → IsQueue rs places capacity → (i : ℕ) → i < length rs → (c : ChannelId) → channel_at rs i ≡ c
    → slice_get (map (channel_at rs) places) 0 ≡ Some c → slice_get places 0 ≡ Some i
place_first rs [] capacity queue i in_range c is first = absurd (none-some _ first)
place_first rs (p ∷ rest) capacity queue i in_range c is first =
    ap Some (own_place rs queue.distinct p i (there_within rs (p ∷ rest) capacity queue p (count_first p rest)) in_range (same_Some _ _ first ∙ sym is))

-- what the first place of a queue is
pub at_front : (rs : List Reader) (places : List ℕ) (capacity : ℕ) → IsQueue rs places capacity → (i : ℕ) → slice_get places 0 ≡ Some i
    → (i < length rs) × (can_send (reader_at rs i) ≡ true) × (slice_get (map (channel_at rs) places) 0 ≡ Some (channel_at rs i))
at_front rs [] capacity queue i first = absurd (none-some _ first)
at_front rs (p ∷ rest) capacity queue i first =
    let is : p ≡ i = same_Some _ _ first in
    let there : 1 ≤ count i (p ∷ rest) = subst (λ k. 1 ≤ count k (p ∷ rest)) is (count_first p rest) in
    (there_within rs (p ∷ rest) capacity queue i there, there_can rs (p ∷ rest) capacity queue i there, ap (λ k. Some (channel_at rs k)) is)

false_if_none : (b : Bool) → one_if b ≤ 0 → b ≡ false
false_if_none true le = absurd (omega arith)
false_if_none false le = refl

-- where the queue is empty no reader can send
pub none_can_send : (rs : List Reader) (places : List ℕ) (capacity : ℕ) → IsQueue rs places capacity → slice_get places 0 ≡ None → All (λ r. can_send r ≡ false) rs
none_can_send rs [] capacity queue empty = λ k d k_in. false_if_none _ (omega (arith, queue.number, get_or-le-sum_by (λ r. one_if (can_send r)) rs k d k_in))
none_can_send rs (p ∷ places) capacity queue empty = absurd (none-some p (sym empty))
