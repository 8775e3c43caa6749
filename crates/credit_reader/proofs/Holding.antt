-- A new queue, and what is true of every queue.
use Rattle.std.proofs.Common.{◌≡◌, ℕ, zero, suc, ◌+◌, ◌<◌, ◌≤◌, true, false, eqb, List, [], ◌∷◌, length, map, get_or, Option, Some, None, refl, sym, ap, subst, ◌∙◌, arith}
use Rattle.std.specs.Prelude.{count_by, position}
use Rattle.std.specs.Option.{option_map_or}
use Rattle.std.proofs.lemmas.Bool.{and_parts, ltb-true}
use Rattle.std.proofs.lemmas.List.{get_or-map, length-map}
use Rattle.std.proofs.lemmas.List.Sums.{sum_by-cons}
use Rattle.std.proofs.lemmas.Option.{none-some, same_Some}
use Rattle.flow_defs.specs.declared.task.ChannelId.{ChannelId}
use Rattle.flow_defs.specs.declared.task.Head.{Head}
use Rattle.flow_defs.specs.declared.task.Head.TheVariants.{Buffer}
use Rattle.credit_reader.specs.declared.reader.Reader.{Reader}
use Rattle.credit_reader.specs.Readers.{fresh, may_go, can_send, KeepsRanges}
use Rattle.credit_reader.specs.Senders.{AreDistinct, is_same, reader_of, is_able}
use Rattle.credit_reader.specs.Places.{reader_at, channel_at, seen, IsQueue}
use Rattle.credit_reader.specs.Laws.{HoldsEachOnce, FirstCanSend}
use Rattle.credit_reader.proofs.Lists.{one_if, count, count_cons, count_first}
use Rattle.credit_reader.proofs.Queues.{nobody, same_test, there_within, there_can}
use Rattle.credit_reader.proofs.Finding.{find_from_position, find_nowhere, fails_all, reader_of_own}
use Rattle.credit_reader.proofs.Channels.{same_channel}

-- ---- a new queue

zero_plus : (n : ℕ) → 0 + n ≡ n
zero_plus n = omega arith

none_can : (channels : List ChannelId) (j : ℕ) → can_send (get_or (map fresh channels) j nobody) ≡ false
none_can [] j = refl
none_can (c ∷ channels) zero = refl
none_can (c ∷ channels) (suc j) = none_can channels j

none_counted : (channels : List ChannelId) → count_by can_send (map fresh channels) ≡ 0
none_counted [] = refl
none_counted (c ∷ channels) = sum_by-cons (λ r. one_if (can_send r)) (fresh c) (map fresh channels) ∙ zero_plus _ ∙ none_counted channels

channel_of_fresh : (channels : List ChannelId) (i : ℕ) (d : Reader) → i < length channels → (get_or (map fresh channels) i d).channel ≡ get_or channels i d.channel
channel_of_fresh channels i d in_range = ap (λ (r : Reader). r.channel) (get_or-map fresh channels i d.channel d in_range)

pub new_queue : (channels : List ChannelId) → AreDistinct channels → IsQueue (map fresh channels) [] (length channels)
new_queue channels distinct = record {
  distinct = λ i j d less j_in is.
      let j_there : j < length channels = omega (arith, length-map channels fresh) in
      let i_there : i < length channels = omega arith in
      distinct i j d.channel less j_there (sym (channel_of_fresh channels i d i_there) ∙ is ∙ channel_of_fresh channels j d j_there);
  ranges = λ k d k_in.
      let k_there : k < length channels = omega (arith, length-map channels fresh) in
      subst KeepsRanges (sym (get_or-map fresh channels k d.channel d k_there)) (record { credit_fits = omega arith; backlog_fits = omega arith });
  once = λ place. sym (ap one_if (none_can channels place));
  number = sym (none_counted channels);
  room = omega (arith, length-map channels fresh);
}

-- ---- each reader that can send stands in it once

module _ (rs : List Reader) (c : ChannelId) where
  count_there : (i : ℕ) (places : List ℕ) → ((p : ℕ) → 1 ≤ count p places → is_same (channel_at rs p) c ≡ eqb p i) → count_by (λ d. is_same d c) (map (channel_at rs) places) ≡ count i places
  count_there i [] test = refl
  count_there i (p ∷ places) test =
      sum_by-cons (λ d. one_if (is_same d c)) (channel_at rs p) (map (channel_at rs) places)
      ∙ ap (λ b. one_if b + count_by (λ d. is_same d c) (map (channel_at rs) places)) (test p (count_first p places))
      ∙ ap (λ n. one_if (eqb p i) + n) (count_there i places (λ q there. test q (omega (arith, count_cons q p places))))
      ∙ sym (count_cons i p places)

  count_nowhere : (places : List ℕ) → ((p : ℕ) → 1 ≤ count p places → is_same (channel_at rs p) c ≡ false) → count_by (λ d. is_same d c) (map (channel_at rs) places) ≡ 0
  count_nowhere [] test = refl
  count_nowhere (p ∷ places) test =
      sum_by-cons (λ d. one_if (is_same d c)) (channel_at rs p) (map (channel_at rs) places)
      ∙ ap (λ b. one_if b + count_by (λ d. is_same d c) (map (channel_at rs) places)) (test p (count_first p places))
      ∙ zero_plus _
      ∙ count_nowhere places (λ q there. test q (omega (arith, count_cons q p places)))

module _ (rs : List Reader) (places : List ℕ) (capacity : ℕ) (queue : IsQueue rs places capacity) where
  each_once : (c : ChannelId) (o : Option ℕ) → position (λ r. is_same r.channel c) rs ≡ o → count_by (λ d. is_same d c) (map (channel_at rs) places) ≡ one_if (is_able c rs)
  each_once c None is =
      count_nowhere rs c places (λ p there. fails_all (λ r. is_same r.channel c) rs nobody is p (there_within rs places capacity queue p there))
      ∙ sym (ap (λ o. one_if (option_map_or can_send o false)) (find_nowhere (λ r. is_same r.channel c) rs nobody is))
  each_once c (Some i) is =
      let found = find_from_position (λ r. is_same r.channel c) rs i nobody is in
      let channel_is : channel_at rs i ≡ c = same_channel _ _ found.2 in
      count_there rs c i places (λ p there. ap (λ e. is_same (channel_at rs p) e) (sym channel_is) ∙ same_test rs queue.distinct i found.0 p (there_within rs places capacity queue p there))
      ∙ queue.once i
      ∙ sym (ap (λ o. one_if (option_map_or can_send o false)) found.1)

  pub holds_each_once : HoldsEachOnce (seen rs places)
  holds_each_once c = each_once c _ refl

  pub own_channels : AreDistinct (map (λ (r : Reader). r.channel) rs)
  own_channels i j d less j_in is =
      let j_there : j < length rs = omega (arith, length-map rs (λ (r : Reader). r.channel)) in
      queue.distinct i j nobody less j_there (
      sym (get_or-map (λ (r : Reader). r.channel) rs i nobody d (omega arith)) ∙ is ∙ get_or-map (λ (r : Reader). r.channel) rs j nobody d j_there)

-- ---- the first one can send

credit_behind : (head : Head) (credit : ℕ) → may_go head credit ≡ true → head ≡ Buffer → 1 ≤ credit
credit_behind head credit may is = let less : 0 < credit = ltb-true 0 credit (ap (λ h. may_go h credit) (sym is) ∙ may) in omega (arith, less)

pub first_can_send : (rs : List Reader) (places : List ℕ) (capacity : ℕ) → IsQueue rs places capacity → FirstCanSend (seen rs places)
first_can_send rs [] capacity queue c first = absurd (none-some _ first)
first_can_send rs (p ∷ rest) capacity queue c first =
    let channel_is : channel_at rs p ≡ c = same_Some _ _ first in
    let can = there_can rs (p ∷ rest) capacity queue p (count_first p rest) in (
      reader_at rs p,
      ap (λ e. reader_of e rs) (sym channel_is) ∙ reader_of_own rs queue.distinct p (there_within rs (p ∷ rest) capacity queue p (count_first p rest)),
      record { channel_is = channel_is; can = can; data_have_credit = credit_behind _ _ (and_parts _ _ can).1 },
    )
