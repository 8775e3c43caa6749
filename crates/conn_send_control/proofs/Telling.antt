-- What messages tell of channels, one after another.
use Rattle.std.proofs.Common.{◌≡◌, ◌≢◌, ℕ, zero, suc, ◌+◌, ◌<◌, inl, inr, cond, Bool, true, false, List, [], ◌∷◌, ◌++◌, length, get_or, set, refl, sym, ap, subst, ◌∙◌, arith}
use Rattle.std.specs.Prelude.{Some, All, slice_get}
use Rattle.std.specs.List.{refill}
use Rattle.std.proofs.lemmas.Bool.{cases_eq, cases_order, false_from_ne_true}
use Rattle.std.proofs.lemmas.Option.{slice_get_within, slice_get-get_or, same_Some}
use Rattle.std.proofs.lemmas.List.Elements.{All-nil, All-cons}
use Rattle.turn_cell.specs.declared.pass.Pass.{Pass}
use Rattle.turn_cell.specs.Passes.{mine}
use Rattle.flow_defs.specs.declared.task.ChannelId.{ChannelId}
use Rattle.flow_defs.proofs.Lists.{refilled_set}
use Rattle.net_frames.specs.Frames.{AreFrames}
use Rattle.net_frames.specs.declared.frame.Frame.TheVariants.{AddCredit, ResumeConsumption}
use Rattle.credit_reader.specs.Senders.{AreDistinct, is_same}
use Rattle.credit_reader.proofs.Channels.{is_same_self, same_channel}
use Rattle.input_channel.specs.declared.entry.ReceiveEntry.{ReceiveEntry}
use Rattle.input_channel.specs.Legal.{credit_told, resumes}
use Rattle.conn_parts.specs.Messages.{Message, AreFrom, is_from_receiver, is_request, requests_of, credit_on, resumptions_on}
use Rattle.conn_parts.specs.Shares.{mine_at}
use Rattle.conn_parts.proofs.Appends.{frames-append, from-append, credit-append, resumptions-append, credit-more, resumptions-more}
use Rattle.conn_parts.proofs.Passes.{mine_here, mine_set, mine_set_else}
use Rattle.conn_send_control.specs.Taking.{Took, one_if, credit_message, resumption_message}
use Rattle.conn_send_control.specs.Going.{Told}

-- ---- channels that are distinct

stands_at : (cs : List ChannelId) (k : ℕ) (c d : ChannelId) → slice_get cs k ≡ Some c → c ≡ get_or cs k d
stands_at cs k c d is = same_Some _ _ (sym is ∙ slice_get-get_or cs k d (slice_get_within cs k c is))

apart : (cs : List ChannelId) (j k : ℕ) (c d : ChannelId) → AreDistinct cs → slice_get cs j ≡ Some c → slice_get cs k ≡ Some d → j ≢ k → c ≢ d
apart cs j k c d distinct at_j at_k other same = elim (cases_order j k) [
  | inl is ↦ other is
  | inr before_or_after ↦ elim before_or_after [
    | inl less ↦ distinct j k c less (slice_get_within cs k d at_k) (sym (stands_at cs j c c at_j) ∙ same ∙ stands_at cs k d c at_k)
    | inr more ↦ distinct k j c more (slice_get_within cs j c at_j) (sym (stands_at cs k d c at_k) ∙ sym same ∙ stands_at cs j c c at_j)
  ]
]

is_other : (cs : List ChannelId) (j k : ℕ) (c d : ChannelId) → AreDistinct cs → slice_get cs j ≡ Some c → slice_get cs k ≡ Some d → j ≢ k → is_same c d ≡ false
is_other cs j k c d distinct at_j at_k other = false_from_ne_true _ (λ test. apart cs j k c d distinct at_j at_k other (same_channel c d test))

abbrev no_channel : ChannelId
no_channel = record { edge = 0; from = 0; to = 0 }

-- The channel that was read at a place stands there.
pub channel_at : (cs : List ChannelId) (at : ℕ) → at < length cs → slice_get cs at ≡ Some (get_or cs at no_channel)
channel_at cs at within = slice_get-get_or cs at no_channel within

-- ---- messages of one channel

-- These messages tell so much of a channel, and nothing of others.
pub record TellsOf (c : ChannelId) (credit resumed : ℕ) (messages : List Message) : Type 0 where
  pub credit_is : (d : ChannelId) → credit_on d messages ≡ cond (is_same c d) credit 0
  pub resumed_is : (d : ChannelId) → resumptions_on d messages ≡ cond (is_same c d) resumed 0
  pub direction : AreFrom is_from_receiver messages
  pub later : All (λ (m : Message). is_request m.0 ≡ false) messages

no_later : All (λ (m : Message). is_request m.0 ≡ false) []
no_later = All-nil (λ (m : Message). is_request m.0 ≡ false)

no_more : (n : ℕ) → 0 + n ≡ n
no_more n = omega arith

cond_same : (n : ℕ) (b : Bool) → n ≡ cond b n n
cond_same n true = refl
cond_same n false = refl

pub tells_credit : (c : ChannelId) (credit : ℕ) → TellsOf c credit 0 (credit_message c credit)
tells_credit c zero = record { credit_is = λ d. cond_same 0 (is_same c d); resumed_is = λ d. cond_same 0 (is_same c d); direction = tt; later = no_later }
tells_credit c (suc n) = record {
  credit_is = λ d. let one = credit-more d [] (AddCredit c (suc n), []) in one ∙ no_more (cond (is_same c d) (suc n) 0);
  resumed_is = λ d. resumptions-more d [] (AddCredit c (suc n), []) ∙ cond_same 0 (is_same c d);
  direction = (refl, tt);
  later = All-cons (λ (m : Message). is_request m.0 ≡ false) (AddCredit c (suc n), []) [] refl no_later;
}

pub tells_resumption : (c : ChannelId) (taken : Bool) → TellsOf c 0 (one_if taken) (resumption_message c taken)
tells_resumption c false = record { credit_is = λ d. cond_same 0 (is_same c d); resumed_is = λ d. cond_same 0 (is_same c d); direction = tt; later = no_later }
tells_resumption c true = record {
  credit_is = λ d. credit-more d [] (ResumeConsumption c, []) ∙ cond_same 0 (is_same c d);
  resumed_is = λ d. resumptions-more d [] (ResumeConsumption c, []) ∙ no_more (cond (is_same c d) 1 0);
  direction = (refl, tt);
  later = All-cons (λ (m : Message). is_request m.0 ≡ false) (ResumeConsumption c, []) [] refl no_later;
}

-- ---- what messages tell of all

module _ {S F : Type 0} (channels : List ChannelId) where
  pub told_none : (ps : List (Pass S ReceiveEntry F)) → Told channels ps ps []
  told_none ps = record { frames = tt; direction = tt; credit = λ k c at. omega arith; resumptions = λ k c at. omega arith }

  pub told_on : (p q r : List (Pass S ReceiveEntry F)) (ms ns : List Message) → Told channels p q ms → Told channels q r ns → Told channels p r (ms ++ ns)
  told_on p q r ms ns one two = record {
    frames = frames-append ms ns one.frames two.frames;
    direction = from-append is_from_receiver ms ns one.direction two.direction;
    credit = λ k c at. let first = one.credit k c at in let second = two.credit k c at in let both = credit-append c ms ns in omega arith;
    resumptions = λ k c at. let first = one.resumptions k c at in let second = two.resumptions k c at in let both = resumptions-append c ms ns in omega arith;
  }

  module _ (passes : List (Pass S ReceiveEntry F)) (at : ℕ) (channel : ChannelId) (pass after : Pass S ReceiveEntry F) (ms : List Message) (credit resumed : ℕ) where
    credit_at : AreDistinct channels → at < length passes → slice_get channels at ≡ Some channel → pass ≡ get_or passes at pass → TellsOf channel credit resumed ms → Took credit resumed (mine pass) (mine after) →
        (k : ℕ) (c : ChannelId) → slice_get channels k ≡ Some c → credit_told (mine_at k (set passes at after)) ≡ credit_told (mine_at k passes) + credit_on c ms
    credit_at distinct within here is tells took k c there = elim (cases_eq k at) [
      | inl same ↦
          let c_is : channel ≡ c = same_Some _ _ (sym here ∙ ap (slice_get channels) (sym same) ∙ there) in
          let told : credit_on c ms ≡ credit = tells.credit_is c ∙ ap (λ b. cond b credit 0) (ap (is_same channel) (sym c_is) ∙ is_same_self channel) in
          let now : mine_at k (set passes at after) ≡ mine after = ap (λ j. mine_at j (set passes at after)) same ∙ mine_set passes at after within in
          let was : mine_at k passes ≡ mine pass = ap (λ j. mine_at j passes) same ∙ mine_here passes at pass within is in
          ap credit_told now ∙ took.credit_is ∙ ap (λ n. credit_told (mine pass) + n) (sym told) ∙ ap (λ es. credit_told es + credit_on c ms) (sym was)
      | inr other ↦
          let told : credit_on c ms ≡ 0 = tells.credit_is c ∙ ap (λ b. cond b credit 0) (is_other channels at k channel c distinct here there (λ e. other (sym e))) in
          let now = ap credit_told (mine_set_else passes at k after other) in
          omega arith
    ]

    resumed_at : AreDistinct channels → at < length passes → slice_get channels at ≡ Some channel → pass ≡ get_or passes at pass → TellsOf channel credit resumed ms → Took credit resumed (mine pass) (mine after) →
        (k : ℕ) (c : ChannelId) → slice_get channels k ≡ Some c → resumes (mine_at k (set passes at after)) ≡ resumes (mine_at k passes) + resumptions_on c ms
    resumed_at distinct within here is tells took k c there = elim (cases_eq k at) [
      | inl same ↦
          let c_is : channel ≡ c = same_Some _ _ (sym here ∙ ap (slice_get channels) (sym same) ∙ there) in
          let told : resumptions_on c ms ≡ resumed = tells.resumed_is c ∙ ap (λ b. cond b resumed 0) (ap (is_same channel) (sym c_is) ∙ is_same_self channel) in
          let now : mine_at k (set passes at after) ≡ mine after = ap (λ j. mine_at j (set passes at after)) same ∙ mine_set passes at after within in
          let was : mine_at k passes ≡ mine pass = ap (λ j. mine_at j passes) same ∙ mine_here passes at pass within is in
          ap resumes now ∙ took.resumed_is ∙ ap (λ n. resumes (mine pass) + n) (sym told) ∙ ap (λ es. resumes es + resumptions_on c ms) (sym was)
      | inr other ↦
          let told : resumptions_on c ms ≡ 0 = tells.resumed_is c ∙ ap (λ b. cond b resumed 0) (is_other channels at k channel c distinct here there (λ e. other (sym e))) in
          let now = ap resumes (mine_set_else passes at k after other) in
          omega arith
    ]

    -- What one channel's turn took is told by its message. The passes were lent for writing, and come back with this one.
    pub told_at : (lent : List (Pass S ReceiveEntry F)) → lent ≡ passes → AreDistinct channels → at < length passes → slice_get channels at ≡ Some channel → pass ≡ get_or lent at pass →
        AreFrames ms → TellsOf channel credit resumed ms → Took credit resumed (mine pass) (mine after) → Told channels passes (refill (length passes) passes (set lent at after)) ms
    told_at lent lent_is distinct within here pass_is frames tells took =
        let is : pass ≡ get_or passes at pass = pass_is ∙ ap (λ ps. get_or ps at pass) lent_is in
        subst (λ ps. Told channels passes ps ms) (sym (refilled_set passes lent at after lent_is)) (record {
          frames = frames;
          direction = tells.direction;
          credit = credit_at distinct within here is tells took;
          resumptions = resumed_at distinct within here is tells took;
        })

-- ---- the requests

no_credit : (cs : List ChannelId) (c : ChannelId) → 0 ≡ credit_on c (requests_of cs)
no_credit [] c = refl
no_credit (d ∷ cs) c = no_credit cs c

no_resumption : (cs : List ChannelId) (c : ChannelId) → 0 ≡ resumptions_on c (requests_of cs)
no_resumption [] c = refl
no_resumption (d ∷ cs) c = no_resumption cs c

from_requests : (cs : List ChannelId) → AreFrom is_from_receiver (requests_of cs)
from_requests [] = tt
from_requests (d ∷ cs) = (refl, from_requests cs)

-- The requests tell no credit beside their own, and no resumption.
pub told_requests : {S F : Type 0} (channels : List ChannelId) (ps : List (Pass S ReceiveEntry F)) → AreFrames (requests_of channels) → Told channels ps ps (requests_of channels)
told_requests channels ps are = record {
  frames = are;
  direction = from_requests channels;
  credit = λ k c at. let none = no_credit channels c in omega arith;
  resumptions = λ k c at. let none = no_resumption channels c in omega arith;
}
