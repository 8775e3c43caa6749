-- Desired sizes, channel by channel.
use Rattle.std.proofs.Common.{◌≡◌, ◌≢◌, inl, inr, ℕ, ◌<◌, Bool, List, [], ◌∷◌, ◌++◌, length, get_or, set, map, sym, ap, subst, ◌∙◌, arith, append-nil}
use Rattle.std.specs.Prelude.{slice_get, if◌then◌else◌, Some}
use Rattle.std.specs.List.{refill}
use Rattle.std.proofs.lemmas.Bool.{cases_order}
use Rattle.std.proofs.lemmas.Option.{slice_get_within, get_or_from_slice_get, same_Some}
use Rattle.turn_cell.specs.Passes.{mine}
use Rattle.flow_defs.specs.declared.task.ChannelId.{ChannelId}
use Rattle.flow_defs.proofs.Lists.{refilled_set}
use Rattle.credit_reader.specs.Senders.{AreDistinct}
use Rattle.credit_reader.proofs.Channels.{is_same_self, is_other}
use Rattle.net_frames.specs.declared.frame.Frame.TheVariants.{NewBufferSize}
use Rattle.subpartition.specs.declared.entry.SendEntry.TheVariants.{Size}
use Rattle.conn_parts.specs.Shares.{mine_at}
use Rattle.conn_parts.specs.Messages.{sizes_on}
use Rattle.conn_parts.proofs.Passes.{mine_more, mine_set_else}
use Rattle.conn_read_control.specs.Rounds.{SendPass, HasDesired, HeardSizes}

-- ---- a pass at a place

desired_set : (n : ℕ) (passes : List SendPass) (k : ℕ) (pass after : SendPass) → k < length passes → pass ≡ get_or passes k pass →
    mine after ≡ mine pass ++ Size n ∷ [] → HasDesired k n passes (set passes k after)
desired_set n passes k pass after within is told = record {
  told = mine_more passes k pass after (Size n ∷ []) within is told;
  others = λ j ne. mine_set_else passes k j after ne;
}

pub desired_lent : (n : ℕ) (passes lent : List SendPass) (k : ℕ) (pass after : SendPass) → lent ≡ passes → k < length passes → pass ≡ get_or passes k pass →
    mine after ≡ mine pass ++ Size n ∷ [] → HasDesired k n passes (refill (length passes) passes (set lent k after))
desired_lent n passes lent k pass after is within is_pass told =
    subst (HasDesired k n passes) (sym (refilled_set passes lent k after is)) (desired_set n passes k pass after within is_pass told)

-- ---- channels

-- A channel stands at one place.
one_place : (channels : List ChannelId) (j k : ℕ) (c : ChannelId) → AreDistinct channels → slice_get channels j ≡ Some c → slice_get channels k ≡ Some c → j ≡ k
one_place channels j k c distinct at_j at_k =
    let same = get_or_from_slice_get channels j c c at_j ∙ sym (get_or_from_slice_get channels k c c at_k) in
    elim (cases_order j k) [
      | inl is ↦ is
      | inr apart ↦ elim apart [
        | inl less ↦ absurd (distinct j k c less (slice_get_within channels k c at_k) same)
        | inr more ↦ absurd (distinct k j c more (slice_get_within channels j c at_j) (sym same))
      ]
    ]

-- ---- what a desired size is to each channel

sizes_here : (c : ChannelId) (n : ℕ) → sizes_on c ((NewBufferSize c n, []) ∷ []) ≡ n ∷ []
sizes_here c n = ap (λ (b : Bool). (if b then n ∷ [] else []) ++ []) (is_same_self c)

sizes_elsewhere : (c d : ChannelId) (n : ℕ) → d ≢ c → sizes_on c ((NewBufferSize d n, []) ∷ []) ≡ []
sizes_elsewhere c d n other = ap (λ (b : Bool). (if b then n ∷ [] else []) ++ []) (is_other d c other)

pub heard_size : (channels : List ChannelId) (channel : ChannelId) (n place : ℕ) (before after : List SendPass) → AreDistinct channels → slice_get channels place ≡ Some channel →
    HasDesired place n before after → HeardSizes channels before after ((NewBufferSize channel n, []) ∷ [])
heard_size channels channel n place before after distinct at desired k c at_k = elim (cases_order k place) [
  | inl is ↦
      let same : channel ≡ c = same_Some channel c (sym at ∙ ap (slice_get channels) (sym is) ∙ at_k) in
      ap (λ j. mine_at j after) is ∙ desired.told
      ∙ ap (λ l. mine_at place before ++ map Size l) (sym (sizes_here channel n) ∙ ap (λ d. sizes_on d ((NewBufferSize channel n, []) ∷ [])) same)
      ∙ ap (λ j. mine_at j before ++ map Size (sizes_on c ((NewBufferSize channel n, []) ∷ []))) (sym is)
  | inr apart ↦
      let ne : k ≢ place = λ is. elim apart [ inl less ↦ absurd (omega arith) | inr more ↦ absurd (omega arith) ] in
      let other : channel ≢ c = λ same. ne (one_place channels k place c distinct at_k (at ∙ ap Some same)) in
      desired.others k ne
      ∙ sym (append-nil (mine_at k before)) ∙ ap (λ l. mine_at k before ++ map Size l) (sym (sizes_elsewhere c channel n other))
]
