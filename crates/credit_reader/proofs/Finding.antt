-- Readers by their channels, and what happens to one of them.
use Rattle.std.proofs.Common.{◌≡◌, ℕ, ◌<◌, ◌≤◌, Bool, true, false, cond, ◌&&◌, eqb, List, [], ◌∷◌, ◌++◌, length, drop, get_or, set, Some, None, refl, sym, ap, subst, ◌∙◌, arith, inl, inr, ltb}
use Rattle.std.specs.Prelude.{find, position}
use Rattle.std.specs.List.{position_or_len}
use Rattle.std.specs.Option.{option_map, option_map_or}
use Rattle.std.proofs.lemmas.Bool.{cases_eq, cases_Bool, ltb-false, ltb-true, and_parts, cond-true, cond-false}
use Rattle.std.proofs.lemmas.List.{get_or-map, get_or-set_same, get_or-set_other, length-map, length-set, ext_get_or}
use Rattle.std.proofs.lemmas.List.Sums.{fails_before_first}
use Rattle.std.proofs.lemmas.List.Recursion.{found_at, found_nowhere}
use Rattle.std.proofs.lemmas.List.Quantifiers.{position-Some}
use Rattle.std.proofs.lemmas.Option.{none-some}
use Rattle.flow_defs.specs.declared.task.ChannelId.{ChannelId}
use Rattle.credit_reader.specs.declared.reader.Reader.{Reader}
use Rattle.credit_reader.specs.declared.places.Found.{Found}
use Rattle.credit_reader.specs.Readers.{can_send, is_due, KeepsRanges, Happening, reader_next}
use Rattle.credit_reader.specs.Senders.{Sender, is_same, reader_of, is_able, after_at, queue_after, happened}
use Rattle.credit_reader.specs.Places.{reader_at, channel_at, seen, HaveOwnChannels, IsQueue, IsFound, Fits, put_at, turned_at}
use Rattle.credit_reader.specs.Laws.{ChangesOne}
use Rattle.credit_reader.proofs.Queues.{nobody, sender, own_place}
use Rattle.credit_reader.proofs.Channels.{is_same_self, is_same_of, is_other, channel_stays, touched, reader_after, channels_after}

-- ---- the first element that passes a test

module _ {X : Type 0} (p : X → Bool) (xs : List X) where
  pub find_from_position : (i : ℕ) (d : X) → position p xs ≡ Some i → (i < length xs) × (find p xs ≡ Some (get_or xs i d)) × (p (get_or xs i d) ≡ true)
  find_from_position i d is =
      let at = position-Some p xs i d is in
      (at.0, found_at (find p) p Some None refl (λ _ _. refl) xs i d at.0 at.2 at.1, at.1)

  pub fails_all : (d : X) → position p xs ≡ None → (k : ℕ) → k < length xs → p (get_or xs k d) ≡ false
  fails_all d none k in_range = elim (cases_Bool (ltb (position_or_len p xs) (length xs))) [
    | inl less ↦ absurd (none-some _ (sym none ∙ cond-true _ _ _ less))
    | inr past ↦ let all : length xs ≤ position_or_len p xs = ltb-false _ _ past in fails_before_first p xs k d (omega (arith, all))
  ]

  pub find_nowhere : (d : X) → position p xs ≡ None → find p xs ≡ None
  find_nowhere d none = found_nowhere (find p) p Some None refl (λ _ _. refl) xs d (fails_all d none)

-- where an announcement is due a buffer waits
pub waits_where_due : (r : Reader) → is_due r ≡ true → 1 ≤ r.backlog
waits_where_due r due =
    let less : 0 < r.backlog = ltb-true 0 r.backlog (and_parts (r.requested && eqb r.credit 0) (ltb 0 r.backlog) (and_parts (r.requested && eqb r.credit 0 && ltb 0 r.backlog) (eqb r.told 0) due).0).1 in omega (arith, less)

-- ---- a reader at its place

pub reader_of_own : (rs : List Reader) → HaveOwnChannels rs → (i : ℕ) → i < length rs → reader_of (channel_at rs i) rs ≡ Some (reader_at rs i)
reader_of_own rs own i in_range =
    found_at (find (λ r. is_same r.channel (channel_at rs i))) (λ r. is_same r.channel (channel_at rs i)) Some None refl (λ _ _. refl) rs i nobody in_range
    (λ k less. is_other (channel_at rs k) (channel_at rs i) (λ same. let is : k ≡ i = own_place rs own k i (omega arith) in_range same in absurd (omega arith))) (is_same_self (channel_at rs i))

module _ (rs : List Reader) (places : List ℕ) (capacity : ℕ) (queue : IsQueue rs places capacity) where
  pub is_found : (i : ℕ) (r : Reader) → i < length rs → reader_at rs i ≡ r → IsFound (seen rs places) r.channel (record { place = i; reader = r })
  is_found i r in_range is = record {
    distinct = queue.distinct;
    within = in_range;
    stands = is;
    reader_is = ap (λ (s : Reader). reader_of s.channel rs) (sym is) ∙ reader_of_own rs queue.distinct i in_range ∙ ap Some is;
    channel_is = refl;
    ranges = subst KeepsRanges is (queue.ranges i nobody in_range);
  }

-- ---- what happens to one reader

pub changes_one : (c : ChannelId) (h : Happening) (rs : List Reader) → ChangesOne c h rs
changes_one c h rs = record { each = λ d. reader_after c h d rs; channels = channels_after c h rs }

-- the readers after it are the old ones with the new one in its place
pub after_at_place : (rs : List Reader) → HaveOwnChannels rs → (i : ℕ) → i < length rs → (c : ChannelId) (h : Happening) → channel_at rs i ≡ c → set rs i (reader_next (reader_at rs i) h) ≡ after_at c h rs
after_at_place rs own i in_range c h is =
    ext_get_or nobody _ _ (length-set rs i _ ∙ sym (length-map rs (touched c h))) (λ j j_in.
    let j_there : j < length rs = omega (arith, length-set rs i (reader_next (reader_at rs i) h)) in
    let mapped = get_or-map (touched c h) rs j nobody nobody j_there in
    elim (cases_eq j i) [
      | inl same ↦ subst (λ k. get_or (set rs i (reader_next (reader_at rs i) h)) k nobody ≡ touched c h (get_or rs k nobody)) (sym same)
          (get_or-set_same rs i _ nobody in_range ∙ sym (cond-true _ _ _ (is_same_of _ _ is))) ∙ sym mapped
      | inr other ↦ get_or-set_other rs i j _ nobody other ∙ sym (cond-false _ _ _ (is_other _ _ (λ same. other (own_place rs own j i j_there in_range (same ∙ sym is))))) ∙ sym mapped
    ])

module _ (s : Sender) (c : ChannelId) (found : Found) (is : IsFound s c found) (h : Happening) where
  new_channel : (reader_next found.reader h).channel ≡ c
  new_channel = channel_stays found.reader h ∙ is.channel_is

  place_channel : channel_at s.readers found.place ≡ c
  place_channel = ap (λ (r : Reader). r.channel) is.stands ∙ is.channel_is

  readers_are : set s.readers found.place (reader_next found.reader h) ≡ after_at c h s.readers
  readers_are = ap (λ r. set s.readers found.place (reader_next r h)) (sym is.stands) ∙ after_at_place s.readers is.distinct found.place is.within c h place_channel

  able_was : can_send (reader_at s.readers found.place) ≡ is_able c s.readers
  able_was = ap can_send is.stands ∙ sym (ap (λ o. option_map_or can_send o false) is.reader_is)

  pub able_now : can_send (reader_next found.reader h) ≡ is_able c (after_at c h s.readers)
  able_now = sym (ap (λ o. option_map_or can_send o false) (
      reader_after c h c s.readers ∙ ap (option_map (λ r. cond (is_same c c) (reader_next r h) r)) is.reader_is ∙ ap Some (cond-true _ _ _ (is_same_self c))))

  pub fits_in : KeepsRanges (reader_next found.reader h) → Fits s found.place (reader_next found.reader h)
  fits_in ranges = record { within = is.within; channel_is = place_channel ∙ sym new_channel; ranges = ranges }

  pub put_happens : put_at found.place (reader_next found.reader h) s ≡ happened c h s
  put_happens =
      ap (λ d. sender (set s.readers found.place (reader_next found.reader h)) (queue_after d (can_send (reader_at s.readers found.place)) (can_send (reader_next found.reader h)) s.queue)) new_channel
      ∙ ap (λ w. sender (set s.readers found.place (reader_next found.reader h)) (queue_after c w (can_send (reader_next found.reader h)) s.queue)) able_was
      ∙ ap (λ n. sender (set s.readers found.place (reader_next found.reader h)) (queue_after c (is_able c s.readers) n s.queue)) able_now
      ∙ ap (λ rs. sender rs (queue_after c (is_able c s.readers) (is_able c (after_at c h s.readers)) s.queue)) readers_are

  pub turn_happens : turned_at found.place (reader_next found.reader h) s ≡ (record { readers = after_at c h s.readers; queue = drop 1 s.queue ++ cond (is_able c (after_at c h s.readers)) (c ∷ []) [] })
  turn_happens =
      ap (λ d. sender (set s.readers found.place (reader_next found.reader h)) (drop 1 s.queue ++ cond (can_send (reader_next found.reader h)) (d ∷ []) [])) new_channel
      ∙ ap (λ n. sender (set s.readers found.place (reader_next found.reader h)) (drop 1 s.queue ++ cond n (c ∷ []) [])) able_now
      ∙ ap (λ rs. sender rs (drop 1 s.queue ++ cond (is_able c (after_at c h s.readers)) (c ∷ []) [])) readers_are
