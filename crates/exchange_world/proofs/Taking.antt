-- In a sound world the first data frame is accepted by its channel, and the sender obeys the first control frame.
use Rattle.std.proofs.Common.{◌≡◌, ℕ, suc, ◌+◌, ◌%◌, ◌^◌, ◌≤◌, ltb, Bool, true, false, not, cond, List, [], ◌∷◌, ◌++◌, length, map, refl, ap, subst, ◌∙◌, arith, eq-eqb, Some, None}
use Rattle.std.specs.Prelude.{Ok, Err}
use Rattle.std.specs.List.{range_with_len}
use Rattle.std.proofs.lemmas.Bool.{ne_eqb, le-ltb}
use Rattle.flow_defs.specs.declared.parcel.Parcel.{Parcel}
use Rattle.flow_defs.specs.declared.parcel.Parcel.TheVariants.{Data, Barrier, End}
use Rattle.flow_defs.specs.Parcels.{barriers_of}
use Rattle.flow_defs.proofs.Lists.{head_same}
use Rattle.credit_reader.specs.declared.reader.Reader.{Reader}
use Rattle.credit_reader.specs.declared.reader.TheConstants.{CREDIT_MAX}
use Rattle.credit_reader.specs.declared.fault.CreditFault.TheVariants as credit_faults
use Rattle.credit_reader.specs.declared.fault.ResumeFault.TheVariants as resume_faults
use Rattle.credit_reader.specs.Answers.{credit_answer, resume_answer}
use Rattle.input_channel.specs.declared.fault.AcceptFault.TheVariants.{WrongSequence, AfterEnd, OverCredit, OverSize, WrongBarrier}
use Rattle.input_channel.specs.Counts.{data_in}
use Rattle.input_channel.specs.States.{ChannelState}
use Rattle.input_channel.specs.Answers.{refused, kind_refused}
use Rattle.exchange_world.specs.Lanes.{Lane}
use Rattle.exchange_world.specs.Worlds.{World, DataFrame, Response, Announcement, ControlFrame, AddCredit, Resumption, lane_of, partition_limit}
use Rattle.exchange_world.specs.Theorems.{IsAccepted, IsObeyed, bytes_in, kind_in, arrival_in}
use Rattle.exchange_world.specs.Sound.{IsSound, AreFit, AreOfChannels, ControlsAreOfChannels, responses, credit_coming, resumptions_coming}
use Rattle.exchange_world.specs.Laws.{SoundTakesFrames}
use Rattle.exchange_world.proofs.LaneLemmas.{SoundOn, sound_on}
use Rattle.exchange_world.proofs.Counting.{backlog-cons}
use Rattle.exchange_world.proofs.ReceivingLanes.{not_ended}
use Rattle.exchange_world.proofs.ReceivingWays.{response_here}

-- ---- data frames

kind_taken : (size : ℕ) (inbox : ChannelState) (p : Parcel) (behind : List Parcel) → inbox.size ≡ size → AreFit size (p ∷ behind) → data_in p ≤ inbox.credit →
    map (λ b. b.0) (barriers_of (p ∷ behind)) ≡ range_with_len (suc inbox.last) (length (barriers_of (p ∷ behind))) → kind_refused inbox (kind_in p) (bytes_in (Some p)) ≡ None
kind_taken size inbox (Data bytes) behind size_is fit paid barriers =
    ap (λ b. cond b (Some (OverCredit ((inbox.received + 1) % 2 ^ 64) inbox.announced)) (cond (ltb inbox.size (length bytes)) (Some (OverSize (length bytes) inbox.size)) None)) (ne_eqb inbox.credit 0 (λ none. omega (arith, paid, none)))
    ∙ ap (λ b. cond b (Some (OverSize (length bytes) inbox.size)) None) (le-ltb inbox.size (length bytes) (omega (arith, fit.1, size_is)))
kind_taken size inbox (Barrier k kind) behind size_is fit paid barriers =
    ap (λ b. cond b None (Some (WrongBarrier (suc inbox.last % 2 ^ 64) k))) (eq-eqb k (suc inbox.last) (head_same k (suc inbox.last) _ _ barriers))
kind_taken size inbox End behind size_is fit paid barriers = refl

first_taken : (size limit : ℕ) (lane : Lane) (r : Reader) (number : ℕ) (p : Parcel) (way : List (ℕ × Parcel)) (credit resumptions backlog : ℕ) → SoundOn size limit lane r ((number, p) ∷ way) credit resumptions →
    refused lane.inbox (arrival_in number p backlog) (bytes_in (Some p)) ≡ None
first_taken size limit lane r number p way credit resumptions backlog sound =
    let agree = sound.agree in
    let coming = map (λ (r : ℕ × Parcel). r.1) way in
    let behind = coming ++ lane.items in
    let kind = kind_refused lane.inbox (kind_in p) (bytes_in (Some p)) in
    ap (λ b. cond (not b) (Some (WrongSequence lane.inbox.next number)) (cond lane.inbox.ended (Some AfterEnd) kind)) (eq-eqb number lane.inbox.next agree.numbered.0)
    ∙ ap (λ b. cond b (Some AfterEnd) kind) (not_ended lane.inbox.ended p behind agree.ended)
    ∙ kind_taken size lane.inbox p behind sound.inbox.size_is agree.fit (omega (arith, agree.credit_is, backlog-cons p coming)) agree.barriers

-- ---- control frames

-- the credit of a reader, with what is on the way, is that of free buffers
credit_low : (size limit : ℕ) (lane : Lane) (r : Reader) (way : List (ℕ × Parcel)) (credit resumptions n : ℕ) → SoundOn size limit lane r way credit resumptions → n ≤ credit → r.credit + n ≤ 10
credit_low size limit lane r way credit resumptions n sound few =
    let inbox = sound.inbox in
    omega (arith, sound.agree.credit_is, inbox.free_is, inbox.exclusive, inbox.floating)

credit_obeyed : (r : Reader) (n : ℕ) → r.requested ≡ true → r.credit + n ≤ 10 → credit_answer n (Some r) ≡ Ok tt
credit_obeyed r n asked low =
    ap (λ b. cond b (cond (ltb CREDIT_MAX (r.credit + n)) (Err (credit_faults.CreditOver (r.credit + n))) (Ok tt)) (Err credit_faults.UnknownChannel)) asked
    ∙ ap (λ b. cond b (Err (credit_faults.CreditOver (r.credit + n))) (Ok tt)) (le-ltb CREDIT_MAX (r.credit + n) (omega (arith, low)))

is_blocked : (b : Bool) (n k j : ℕ) → k ≡ suc j → n + k ≡ cond b 1 0 → b ≡ true
is_blocked true n k j some e = refl
is_blocked false n k j some e = absurd (omega (arith, some, e))

resume_obeyed : (r : Reader) → r.requested ≡ true → r.blocked ≡ true → resume_answer (Some r) ≡ Ok tt
resume_obeyed r asked blocked =
    ap (λ b. cond b (cond r.blocked (Ok tt) (Err resume_faults.NotBlocked)) (Err resume_faults.UnknownChannel)) asked
    ∙ ap (λ b. cond b (Ok tt) (Err resume_faults.NotBlocked)) blocked

-- ---- a sound world

module _ (m : ℕ) (w : World) (sound : IsSound m w) where
  accepted : (frames : List DataFrame) → w.frames ≡ frames → AreOfChannels m frames → IsAccepted w frames
  accepted [] is of = tt
  accepted (Response c number p backlog ∷ frames) is of =
      let lane = sound.each c of.0 of.1 in
      let way : responses c w.frames ≡ (number, p) ∷ responses c frames = ap (responses c) is ∙ response_here c number backlog p frames in
      first_taken w.size (partition_limit w) (lane_of w c) lane.reader number p (responses c frames) _ _ backlog
      (subst (λ x. SoundOn w.size (partition_limit w) (lane_of w c) lane.reader x (credit_coming c w.controls) (resumptions_coming c w.controls)) way (sound_on c w lane))
  accepted (Announcement c n ∷ frames) is of = tt

  obeyed : (controls : List ControlFrame) → w.controls ≡ controls → ControlsAreOfChannels m controls → IsObeyed w controls
  obeyed [] is of = tt
  obeyed (AddCredit c n ∷ controls) is of =
      let lane = sound.each c of.0 of.1 in
      let here : credit_coming c w.controls ≡ n + credit_coming c controls = ap (credit_coming c) is ∙ ap (λ b. cond b (n + credit_coming c controls) (credit_coming c controls)) (eq-eqb c c refl) in
      ap (credit_answer n) lane.found ∙ credit_obeyed lane.reader n lane.sender.requested (credit_low w.size (partition_limit w) (lane_of w c) lane.reader _ _ _ n (sound_on c w lane) (omega (arith, here)))
  obeyed (Resumption c ∷ controls) is of =
      let lane = sound.each c of.0 of.1 in
      let here : resumptions_coming c w.controls ≡ suc (resumptions_coming c controls) = ap (resumptions_coming c) is ∙ ap (λ b. cond b (suc (resumptions_coming c controls)) (resumptions_coming c controls)) (eq-eqb c c refl) in
      ap resume_answer lane.found ∙ resume_obeyed lane.reader lane.sender.requested (is_blocked lane.reader.blocked _ (resumptions_coming c w.controls) (resumptions_coming c controls) here lane.agree.blocked)

pub sound_takes_frames : SoundTakesFrames
sound_takes_frames m w sound = record { accepted = accepted m w sound w.frames refl sound.frames; obeyed = obeyed m w sound w.controls refl sound.controls }
