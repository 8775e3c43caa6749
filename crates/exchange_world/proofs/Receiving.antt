-- A sound world stays sound at each event of the receiving end and of the receiving task.
use Rattle.std.proofs.Common.{◌≡◌, ℕ, zero, suc, ◌+◌, ◌-◌, ◌≤◌, eqb, ltb, Bool, true, false, not, cond, List, [], ◌∷◌, ◌++◌, length, refl, sym, ap, subst, ◌∙◌, arith, Option, Some, None}
use Rattle.std.specs.Prelude.{slice_set}
use Rattle.std.proofs.lemmas.Bool.{cond_both, eqb-false}
use Rattle.flow_defs.specs.Items.{Items}
use Rattle.flow_defs.specs.declared.parcel.Parcel.{Parcel}
use Rattle.flow_defs.specs.declared.parcel.Parcel.TheVariants as parcels
use Rattle.input_channel.specs.declared.entry.Gave.TheVariants as gaves
use Rattle.input_channel.specs.declared.entry.ReceiveEntry.TheVariants as entries
use Rattle.input_channel.specs.Inboxes.{poll_gives}
use Rattle.input_channel.specs.Counts.{data_in, told}
use Rattle.input_channel.specs.States.{OpenSave, channel_next, saved_bytes}
use Rattle.script_text.specs.declared.event.Event.TheVariants as events
use Rattle.script_text.specs.declared.reply.Reply.{Reply}
use Rattle.script_text.specs.declared.reply.Reply.TheVariants as replies
use Rattle.script_text.specs.Scripts.{IsChannel}
use Rattle.exchange_world.specs.Lanes.{Lane, floating_here, behind_records, with_number}
use Rattle.exchange_world.specs.Worlds.{World, DataFrame, Response, Announcement, AddCredit, Resumption, lane_of, with_lane, partition_limit}
use Rattle.exchange_world.specs.Steps.{step, receives, delivers, polls_item, polls, reads, is_no_save, saving, tells_open}
use Rattle.exchange_world.specs.Sound.{IsSound, AreOfChannels, responses, credit_coming, resumptions_coming}
use Rattle.exchange_world.proofs.LaneLemmas.{SoundOn, sound_on, lane_put}
use Rattle.exchange_world.proofs.WorldLemmas.{controls_are-append}
use Rattle.exchange_world.proofs.Counting.{floating_taken}
use Rattle.exchange_world.proofs.ReceivingPolls.{takes, read_inbox, is_read}
use Rattle.exchange_world.proofs.ReceivingLanes.{pushed_on, told_on, polled_on, read_on, saved_on, credited_on, resumed_on}
use Rattle.exchange_world.proofs.ReceivingWays.{response_here, response_there, credit_here, credit_there, no_resumption, resumption_here, resumption_there, no_credit}
use Rattle.exchange_world.proofs.ReceivingWorlds.{keeps_lane, keeps_own, keeps_asks}

-- ---- a data frame arrives

-- data take a floating buffer that is free, or none
floating_pushed : (inbox : Rattle.input_channel.specs.States.ChannelState) (p : Parcel) (backlog : ℕ) → floating_here (channel_next inbox (entries.Push p backlog)) ≡ floating_here inbox
floating_pushed inbox (parcels.Data bytes) backlog = floating_taken inbox.counts.floating inbox.counts.held
floating_pushed inbox (parcels.Barrier k kind) backlog = refl
floating_pushed inbox parcels.End backlog = refl

set_twice : {A : Type 0} (xs : List A) (i : ℕ) (x y : A) → slice_set (slice_set xs i x) i y ≡ slice_set xs i y
set_twice [] i x y = refl
set_twice (z ∷ xs) zero x y = refl
set_twice (z ∷ xs) (suc i) x y = ap (λ l. z ∷ l) (set_twice xs i x y)

module _ (m : ℕ) (w : World) (sound : IsSound m w) where
  delivered : (frames : List DataFrame) → w.frames ≡ frames → AreOfChannels m frames → IsSound m (delivers w frames).0
  delivered [] is of = sound
  delivered (Response c number p backlog ∷ frames) is of =
      let lane = sound.each c of.0 of.1 in
      let way : responses c w.frames ≡ (number, p) ∷ responses c frames = ap (responses c) is ∙ response_here c number backlog p frames in
      let on = subst (λ x. SoundOn w.size (partition_limit w) (lane_of w c) lane.reader x (credit_coming c w.controls) (resumptions_coming c w.controls)) way (sound_on c w lane) in
      let pushed : Lane = record (lane_of w c) { inbox = channel_next (lane_of w c).inbox (entries.Push p backlog) } in
      let next = keeps_lane m w sound c of.0 of.1 pushed frames w.controls of.3 sound.controls
      (λ d other. record { way = sym (ap (responses d) is ∙ response_there d c number backlog p frames other); credit = refl; resumptions = refl })
      (pushed_on w.size (lane_of w c) lane.reader number p (responses c frames) _ _ backlog (partition_limit w) on)
      (omega (arith, sound.gate, floating_pushed (lane_of w c).inbox p backlog)) in
      keeps_asks m (receives (record w { frames = frames }) c (entries.Push p backlog)) c next of.0 of.1
  delivered (Announcement c n ∷ frames) is of =
      let lane = sound.each c of.0 of.1 in
      let way : (d : ℕ) → responses d w.frames ≡ responses d frames = λ d. ap (responses d) is in
      let on = subst (λ x. SoundOn w.size (partition_limit w) (lane_of w c) lane.reader x (credit_coming c w.controls) (resumptions_coming c w.controls)) (way c) (sound_on c w lane) in
      let heard : Lane = record (lane_of w c) { inbox = channel_next (lane_of w c).inbox (entries.Backlog n) } in
      let next = keeps_lane m w sound c of.0 of.1 heard frames w.controls of.3 sound.controls
      (λ d other. record { way = sym (way d); credit = refl; resumptions = refl })
      (told_on w.size (lane_of w c) lane.reader (responses c frames) _ _ (partition_limit w) n on)
      (omega (arith, sound.gate)) in
      keeps_asks m (receives (record w { frames = frames }) c (entries.Backlog n)) c next of.0 of.1

  pub keeps_deliver : IsSound m (step w events.Deliver).0
  keeps_deliver = delivered w.frames refl sound.frames

  -- ---- credit is announced, and a channel is resumed

  module _ (c : ℕ) (channel : IsChannel m c) where
    credited : eqb (told (lane_of w c).inbox.counts) 0 ≡ false →
        IsSound m (record (receives w c (entries.Credit (told (lane_of w c).inbox.counts))) { controls = w.controls ++ AddCredit c (told (lane_of w c).inbox.counts) ∷ [] })
    credited some =
        let n = told (lane_of w c).inbox.counts in
        let lane = sound.each c channel.0 channel.1 in
        let positive : 1 ≤ n = (let apart = eqb-false n 0 some in grind (arith, apart)) in
        let on = credited_on w.size (lane_of w c) lane.reader (responses c w.frames) (credit_coming c w.controls) (resumptions_coming c w.controls) (partition_limit w) (sound_on c w lane) in
        let now : Lane = record (lane_of w c) { inbox = channel_next (lane_of w c).inbox (entries.Credit n) } in
        let controls = w.controls ++ AddCredit c n ∷ [] in
        keeps_lane m w sound c channel.0 channel.1 now w.frames controls sound.frames (controls_are-append m w.controls (AddCredit c n ∷ []) sound.controls (channel.0, channel.1, positive, tt))
        (λ d other. record { way = refl; credit = credit_there w.controls c d n other; resumptions = no_resumption w.controls c d n })
        (subst (λ x. SoundOn w.size (partition_limit w) now lane.reader (responses c w.frames) x (resumptions_coming c controls)) (sym (credit_here w.controls c n))
        (subst (λ x. SoundOn w.size (partition_limit w) now lane.reader (responses c w.frames) (credit_coming c w.controls + n) x) (sym (no_resumption w.controls c c n)) on))
        (omega (arith, sound.gate))

    pub keeps_credit : IsSound m (step w (events.Credit c)).0
    keeps_credit =
        let n = told (lane_of w c).inbox.counts in
        elim (eqb n 0) as (λ b. eqb n 0 ≡ b → IsSound m (cond {A = World × Reply} b (w, replies.Absent) (record (receives w c (entries.Credit n)) { controls = w.controls ++ AddCredit c n ∷ [] }, replies.Credit c n)).0) [
          | true ↦ λ e. sound
          | false ↦ λ e. credited e
        ] refl

    resumed : 1 ≤ (lane_of w c).inbox.owed → IsSound m (record (receives (receives w c entries.Ask) c entries.Resume) { controls = w.controls ++ Resumption c ∷ [] })
    resumed some =
        let lane = sound.each c channel.0 channel.1 in
        let on = resumed_on w.size (lane_of w c) lane.reader (responses c w.frames) (credit_coming c w.controls) (resumptions_coming c w.controls) (partition_limit w) (sound_on c w lane) some in
        let asked : Lane = record (lane_of w c) { inbox = channel_next (lane_of w c).inbox entries.Ask } in
        let now : Lane = record (lane_of w c) { inbox = channel_next (channel_next (lane_of w c).inbox entries.Ask) entries.Resume } in
        let controls = w.controls ++ Resumption c ∷ [] in
        let within : c ≤ length w.lanes = omega (arith, sound.lanes, channel.1) in
        let there : lane_of (receives w c entries.Ask) c ≡ asked = lane_put w c asked channel.0 within in
        let lanes : (receives (receives w c entries.Ask) c entries.Resume).lanes ≡ slice_set w.lanes (c - 1) now =
        ap (λ (l : Lane). slice_set (slice_set w.lanes (c - 1) asked) (c - 1) (record l { inbox = channel_next l.inbox entries.Resume })) there ∙ set_twice w.lanes (c - 1) asked now in
        let next = keeps_lane m w sound c channel.0 channel.1 now w.frames controls sound.frames (controls_are-append m w.controls (Resumption c ∷ []) sound.controls (channel.0, channel.1, tt))
        (λ d other. record { way = refl; credit = no_credit w.controls c d; resumptions = resumption_there w.controls c d other })
        (subst (λ x. SoundOn w.size (partition_limit w) now lane.reader (responses c w.frames) x (resumptions_coming c controls)) (sym (no_credit w.controls c c))
        (subst (λ x. SoundOn w.size (partition_limit w) now lane.reader (responses c w.frames) (credit_coming c w.controls) x) (sym (resumption_here w.controls c)) on))
        (omega (arith, sound.gate)) in
        subst (λ l. IsSound m (record w { lanes = l; controls = controls })) (sym lanes) next

    pub keeps_resume : IsSound m (step w (events.Resume c)).0
    keeps_resume =
        elim (eqb (lane_of w c).inbox.owed 0) as (λ b. eqb (lane_of w c).inbox.owed 0 ≡ b → IsSound m (cond {A = World × Reply} b (w, replies.Refused) (record (receives (receives w c entries.Ask) c entries.Resume) { controls = w.controls ++ Resumption c ∷ [] }, replies.Done)).0) [
          | true ↦ λ e. sound
          | false ↦ λ e. resumed (let apart = eqb-false (lane_of w c).inbox.owed 0 e in grind (arith, apart))
        ] refl

    -- ---- what waits is polled

    -- a barrier, or the end
    polled_event : (hold : Bool) (p : Parcel) → data_in p ≡ 0 → poll_gives hold (lane_of w c).inbox.queue ≡ Some p → IsSound m (receives w c (entries.Poll hold gaves.NoBuffer))
    polled_event hold p none gives =
        let lane = sound.each c channel.0 channel.1 in
        let on = polled_on w.size (lane_of w c) lane.reader (responses c w.frames) (credit_coming c w.controls) (resumptions_coming c w.controls) (partition_limit w) hold p (sound_on c w lane) (takes hold (lane_of w c).inbox.queue p gives) gives none in
        keeps_own m w sound c channel.0 channel.1 (record (lane_of w c) { inbox = channel_next (lane_of w c).inbox (entries.Poll hold gaves.NoBuffer) }) w.frames w.controls refl refl on (omega (arith, sound.gate))

    polled_data : (hold : Bool) (bytes : List ℕ) → poll_gives hold (lane_of w c).inbox.queue ≡ Some (parcels.Data bytes) → IsSound m (reads w c hold bytes).0
    polled_data hold bytes gives =
        let lane = sound.each c channel.0 channel.1 in
        let inbox = (lane_of w c).inbox in
        let gone = takes hold inbox.queue (parcels.Data bytes) gives in
        let rest = behind_records ((lane_of w c).rest ++ bytes) in
        let on = read_on w.size (lane_of w c) lane.reader (responses c w.frames) (credit_coming c w.controls) (resumptions_coming c w.controls) (partition_limit w) hold bytes rest (sound_on c w lane) gone gives in
        let few = (is_read w.size hold inbox bytes inbox.counts.held lane.inbox gone refl).fewer in
        let now : Lane = record (lane_of w c) { inbox = read_inbox inbox hold bytes inbox.counts.held; rest = rest } in
        let next = keeps_own m w sound c channel.0 channel.1 now w.frames w.controls refl refl on (omega (arith, sound.gate, few)) in
        keeps_asks m (with_lane w c now) c next channel.0 channel.1

    polled_item : (hold : Bool) (given : Option Parcel) → poll_gives hold (lane_of w c).inbox.queue ≡ given → IsSound m (polls_item w c hold given).0
    polled_item hold None gives = sound
    polled_item hold (Some (parcels.Data bytes)) gives = polled_data hold bytes gives
    polled_item hold (Some (parcels.Barrier k kind)) gives = polled_event hold (parcels.Barrier k kind) refl gives
    polled_item hold (Some parcels.End) gives = polled_event hold parcels.End refl gives

    keeps_polls : (hold : Bool) → IsSound m (polls w c hold).0
    keeps_polls hold = polled_item hold (poll_gives hold (lane_of w c).inbox.queue) refl

    pub keeps_poll : IsSound m (step w (events.Poll c)).0
    keeps_poll = keeps_polls false

    pub keeps_hold : IsSound m (step w (events.Hold c)).0
    keeps_hold = keeps_polls true

    -- ---- a save is opened, and closed

    saved_so : (save : Option OpenSave) (saves : List ℕ) → IsSound m (with_lane w c (record (lane_of w c) { inbox = record (lane_of w c).inbox { save = save }; saves = saves }))
    saved_so save saves =
        let lane = sound.each c channel.0 channel.1 in
        let now : Lane = record (lane_of w c) { inbox = record (lane_of w c).inbox { save = save }; saves = saves } in
        let on = saved_on w.size (lane_of w c) lane.reader (responses c w.frames) (credit_coming c w.controls) (resumptions_coming c w.controls) (partition_limit w) save saves (sound_on c w lane) in
        keeps_own m w sound c channel.0 channel.1 now w.frames w.controls refl refl on (omega (arith, sound.gate))

    pub keeps_save : (k : ℕ) → IsSound m (step w (events.Save c k)).0
    keeps_save k =
        let lane = lane_of w c in
        let done : World × Reply = (with_lane w c (saving k lane), replies.Done) in
        cond_both (is_no_save lane k) (w, replies.Refused) done (λ (d : World × Reply). IsSound m d.0) (λ none. sound) (λ may.
        saved_so (Some (record { number = k; bytes = lane.rest })) (with_number k lane.saves))

    told_open : (k : ℕ) (save : Option OpenSave) → IsSound m (tells_open w c k save).0
    told_open k None = sound
    told_open k (Some save) =
        let inbox = (lane_of w c).inbox in
        let bytes : Items ℕ = record { items = saved_bytes inbox save; room = 0 } in
        let done : World × Reply = (receives w c (entries.Saved k), replies.SavedIn c k bytes) in
        let later : World × Reply = cond (ltb inbox.last k) (w, replies.NotYet c k) done in
        cond_both (not (eqb save.number k)) (w, replies.Refused) later (λ (d : World × Reply). IsSound m d.0) (λ other. sound) (λ this.
        cond_both (ltb inbox.last k) (w, replies.NotYet c k) done (λ (d : World × Reply). IsSound m d.0) (λ early. sound) (λ came.
        saved_so None (lane_of w c).saves))

    pub keeps_saved : (k : ℕ) → IsSound m (step w (events.Saved c k)).0
    keeps_saved k = told_open k (lane_of w c).inbox.save

  pub keeps_pool : IsSound m (step w events.Pool).0
  keeps_pool = sound
