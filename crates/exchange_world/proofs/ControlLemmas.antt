-- A sound connection stays sound when its sender obeys a control frame, and when it announces a backlog.
use Rattle.std.proofs.Common.{◌≡◌, ℕ, zero, suc, ◌+◌, ◌<◌, ◌≤◌, Bool, true, false, cond, eqb, List, [], ◌∷◌, ◌++◌, map, Option, Some, None, refl, sym, ap, subst, ◌∙◌, arith}
use Rattle.std.specs.Prelude.{find}
use Rattle.std.specs.Option.{option_map_or}
use Rattle.std.proofs.lemmas.List.Sums.{count_by-le-length}
use Rattle.flow_defs.specs.Parcels.{is_data}
use Rattle.std.specs.List.{range_with_len}
use Rattle.std.proofs.lemmas.Bool.{eq-eqb, ne_eqb, cond-true, cond-false}
use Rattle.std.proofs.lemmas.List.{append-nil}
use Rattle.std.proofs.lemmas.Option.{none-some, same_Some}
use Rattle.flow_defs.specs.declared.parcel.Parcel.{Parcel}
use Rattle.flow_defs.proofs.Lists.{no_cons}
use Rattle.credit_reader.specs.declared.reader.Reader.{Reader}
use Rattle.credit_reader.specs.Readers.{Happening, Granted, Resumed, Announced, is_due, reader_next}
use Rattle.credit_reader.specs.Senders.{is_same, reader_of, happened}
use Rattle.credit_reader.specs.Answers.{due_first}
use Rattle.credit_reader.proofs.Channels.{is_same_self, channels_after}
use Rattle.script_text.specs.declared.event.Event.TheVariants as events
use Rattle.exchange_world.specs.Lanes.{Lane, ITEMS_MAX, channel_id}
use Rattle.exchange_world.specs.Worlds.{World, DataFrame, Announcement, ControlFrame, AddCredit, Resumption, lane_of, partition_limit}
use Rattle.exchange_world.specs.Steps.{step, obeys, announces, number_of}
use Rattle.exchange_world.specs.Sound.{responses, credit_coming, resumptions_coming, AreOfChannels, ControlsAreOfChannels, IsSoundLane, IsSound}
use Rattle.exchange_world.proofs.LaneLemmas.{other_channel, reader_here, reader_there, SoundOn, sound_on, is_sound_lane}
use Rattle.exchange_world.proofs.QueueLemmas.{happened_holds, same_cons}
use Rattle.exchange_world.proofs.WorldLemmas.{keeps_sound, responses-append, of_channels-append}

-- ---- a world in which something has happened to one reader, and nothing else but its frames changed

module _ (m c : ℕ) (w : World) (h : Happening) (frames : List DataFrame) (controls : List ControlFrame) where
  abbrev with_happening : World
  with_happening = record w { sender = happened (channel_id c) h w.sender; frames = frames; controls = controls }

  keeps_happening : IsSound m w → 1 ≤ c → c ≤ m
      → ((d : ℕ) → responses d frames ≡ responses d w.frames)
      → ((d : ℕ) → (d ≡ c → ⊥) → credit_coming d controls ≡ credit_coming d w.controls)
      → ((d : ℕ) → (d ≡ c → ⊥) → resumptions_coming d controls ≡ resumptions_coming d w.controls)
      → AreOfChannels m frames → ControlsAreOfChannels m controls
      → ((r : Reader) → SoundOn w.size (partition_limit w) (lane_of w c) r (responses c w.frames) (credit_coming c w.controls) (resumptions_coming c w.controls)
      → SoundOn w.size (partition_limit w) (lane_of w c) (reader_next r h) (responses c w.frames) (credit_coming c controls) (resumptions_coming c controls))
      → IsSound m with_happening
  keeps_happening sound low high way credit resumptions data_of control_of here =
      let s = sound.each c low high in
      keeps_sound m c w with_happening sound (record {
        size = refl;
        total = refl;
        lanes = refl;
        channels = channels_after (channel_id c) h w.sender.readers;
        lane = λ d d_low d_high other. refl;
        reader = λ d d_low d_high other. reader_there (channel_id c) h w.sender.readers (channel_id d) (other_channel c d low d_low other);
        way = λ d d_low d_high other. way d;
        credit = λ d d_low d_high other. credit d other;
        resumptions = λ d d_low d_high other. resumptions d other;
      }) (happened_holds (channel_id c) h w.sender sound.queue) data_of control_of
      (λ c_low c_high. is_sound_lane c with_happening w.size (partition_limit w) (lane_of w c) (reader_next s.reader h) (responses c w.frames) (credit_coming c controls) (resumptions_coming c controls)
      refl refl refl (reader_here (channel_id c) h w.sender.readers s.reader s.found) (way c) refl refl (here s.reader (sound_on c w s)))
      sound.gate

-- ---- more credit, and resuming

granted_sound : (size limit n : ℕ) (lane : Lane) (r : Reader) (way : List (ℕ × Parcel)) (credit resumptions : ℕ)
    → SoundOn size limit lane r way (n + credit) resumptions → SoundOn size limit lane (reader_next r (Granted n)) way credit resumptions
granted_sound size limit n lane r way credit resumptions s = record {
  sender = record { requested = s.sender.requested; head_is = s.sender.head_is; backlog_is = s.sender.backlog_is };
  inbox = s.inbox;
  agree = record {
    numbered = s.agree.numbered;
    next = s.agree.next;
    credit_is = let is = s.agree.credit_is in omega (arith, is);
    fit = s.agree.fit;
    barriers = s.agree.barriers;
    last = s.agree.last;
    ended = s.agree.ended;
    finished = s.agree.finished;
    unfinished = s.agree.unfinished;
    blocked = s.agree.blocked;
  };
  room = s.room;
  lent = s.lent;
}

none_left : (b : Bool) (n k : ℕ) → n + suc k ≡ cond b 1 0 → n + k ≡ 0
none_left true n k e = omega arith
none_left false n k e = absurd (omega arith)

resumed_sound : (size limit : ℕ) (lane : Lane) (r : Reader) (way : List (ℕ × Parcel)) (credit resumptions : ℕ)
    → SoundOn size limit lane r way credit (suc resumptions) → SoundOn size limit lane (reader_next r Resumed) way credit resumptions
resumed_sound size limit lane r way credit resumptions s = record {
  sender = record { requested = s.sender.requested; head_is = s.sender.head_is; backlog_is = s.sender.backlog_is };
  inbox = s.inbox;
  agree = record {
    numbered = s.agree.numbered;
    next = s.agree.next;
    credit_is = s.agree.credit_is;
    fit = s.agree.fit;
    barriers = s.agree.barriers;
    last = s.agree.last;
    ended = s.agree.ended;
    finished = s.agree.finished;
    unfinished = s.agree.unfinished;
    blocked = none_left r.blocked _ resumptions s.agree.blocked;
  };
  room = s.room;
  lent = s.lent;
}

credit_first : (c n : ℕ) (controls : List ControlFrame) → credit_coming c (AddCredit c n ∷ controls) ≡ n + credit_coming c controls
credit_first c n controls = cond-true (eqb c c) (n + credit_coming c controls) (credit_coming c controls) (eq-eqb c c refl)

credit_other : (c d n : ℕ) (controls : List ControlFrame) → (d ≡ c → ⊥) → credit_coming d controls ≡ credit_coming d (AddCredit c n ∷ controls)
credit_other c d n controls other = sym (cond-false (eqb c d) (n + credit_coming d controls) (credit_coming d controls) (ne_eqb c d (λ e. other (sym e))))

resumption_first : (c : ℕ) (controls : List ControlFrame) → resumptions_coming c (Resumption c ∷ controls) ≡ suc (resumptions_coming c controls)
resumption_first c controls = cond-true (eqb c c) (suc (resumptions_coming c controls)) (resumptions_coming c controls) (eq-eqb c c refl)

resumption_other : (c d : ℕ) (controls : List ControlFrame) → (d ≡ c → ⊥) → resumptions_coming d controls ≡ resumptions_coming d (Resumption c ∷ controls)
resumption_other c d controls other = sym (cond-false (eqb c d) (suc (resumptions_coming d controls)) (resumptions_coming d controls) (ne_eqb c d (λ e. other (sym e))))

-- a world whose control frames are these obeys the first of them
obeyed : (m : ℕ) (w : World) (fs : List ControlFrame) → w.controls ≡ fs → IsSound m w → IsSound m (obeys w fs).0
obeyed m w [] is sound = sound
obeyed m w (AddCredit c n ∷ controls) is sound =
    let of : ControlsAreOfChannels m (AddCredit c n ∷ controls) = subst (ControlsAreOfChannels m) is sound.controls in
    keeps_happening m c w (Granted n) w.frames controls sound of.0 of.1 (λ d. refl)
    (λ d other. credit_other c d n controls other ∙ ap (credit_coming d) (sym is)) (λ d other. ap (resumptions_coming d) (sym is)) sound.frames of.3
    (λ r s. granted_sound w.size (partition_limit w) n (lane_of w c) r (responses c w.frames) (credit_coming c controls) (resumptions_coming c controls)
    (subst (λ k. SoundOn w.size (partition_limit w) (lane_of w c) r (responses c w.frames) k (resumptions_coming c controls)) (ap (credit_coming c) is ∙ credit_first c n controls)
    (subst (λ k. SoundOn w.size (partition_limit w) (lane_of w c) r (responses c w.frames) (credit_coming c w.controls) k) (ap (resumptions_coming c) is) s)))
obeyed m w (Resumption c ∷ controls) is sound =
    let of : ControlsAreOfChannels m (Resumption c ∷ controls) = subst (ControlsAreOfChannels m) is sound.controls in
    keeps_happening m c w Resumed w.frames controls sound of.0 of.1 (λ d. refl)
    (λ d other. ap (credit_coming d) (sym is)) (λ d other. resumption_other c d controls other ∙ ap (resumptions_coming d) (sym is)) sound.frames of.2
    (λ r s. resumed_sound w.size (partition_limit w) (lane_of w c) r (responses c w.frames) (credit_coming c controls) (resumptions_coming c controls)
    (subst (λ k. SoundOn w.size (partition_limit w) (lane_of w c) r (responses c w.frames) (credit_coming c controls) k) (ap (resumptions_coming c) is ∙ resumption_first c controls)
    (subst (λ k. SoundOn w.size (partition_limit w) (lane_of w c) r (responses c w.frames) k (resumptions_coming c w.controls)) (ap (credit_coming c) is) s)))

pub keeps_control : (m : ℕ) (w : World) → IsSound m w → IsSound m (step w events.Control).0
keeps_control m w sound = obeyed m w w.controls refl sound

-- ---- announcing a backlog

-- the first of the readers that passes a test is the reader of its channel
first_is_found : (p : Reader → Bool) (a n : ℕ) (rs : List Reader) (r : Reader) → 1 ≤ a → map (λ (r : Reader). r.channel) rs ≡ map channel_id (range_with_len a n) → find p rs ≡ Some r
    → (c : ℕ) × (a ≤ c) × (c < a + n) × (r.channel ≡ channel_id c) × (reader_of (channel_id c) rs ≡ Some r)
first_is_found p a n [] r low channels found = absurd (none-some _ found)
first_is_found p a zero (s ∷ rs) r low channels found = absurd (no_cons s.channel (map (λ (r : Reader). r.channel) rs) channels)
first_is_found p a (suc n) (s ∷ rs) r low channels found =
    let parts = same_cons s.channel (channel_id a) (map (λ (r : Reader). r.channel) rs) (map channel_id (range_with_len (a + 1) n)) channels in
    elim (p s) as (λ b. cond b (Some s) (find p rs) ≡ Some r → (c : ℕ) × (a ≤ c) × (c < a + suc n) × (r.channel ≡ channel_id c) × (reader_of (channel_id c) (s ∷ rs) ≡ Some r)) [
      | true ↦ λ e. let is : s ≡ r = same_Some _ _ e in (
        a,
        omega arith,
        omega arith,
        ap (λ (t : Reader). t.channel) (sym is) ∙ parts.0,
        cond-true (is_same s.channel (channel_id a)) (Some s) (reader_of (channel_id a) rs) (ap (λ c. is_same c (channel_id a)) parts.0 ∙ is_same_self (channel_id a)) ∙ e,
      )
      | false ↦ λ e. let later = first_is_found p (a + 1) n rs r (omega arith) parts.1 e in
          let from : a + 1 ≤ later.0 = later.1 in (
            later.0,
            omega (arith, later.1),
            omega (arith, later.2),
            later.3,
            cond-false (is_same s.channel (channel_id later.0)) (Some s) (reader_of (channel_id later.0) rs)
                (ap (λ c. is_same c (channel_id later.0)) parts.0 ∙ other_channel later.0 a (omega arith) low (λ (e : a ≡ later.0). absurd (omega arith))) ∙ later.4,
          )
    ] found

announced_sound : (size limit : ℕ) (lane : Lane) (r : Reader) (way : List (ℕ × Parcel)) (credit resumptions : ℕ)
    → SoundOn size limit lane r way credit resumptions → SoundOn size limit lane (reader_next r Announced) way credit resumptions
announced_sound size limit lane r way credit resumptions s = record {
  sender = record { requested = s.sender.requested; head_is = s.sender.head_is; backlog_is = s.sender.backlog_is };
  inbox = s.inbox;
  agree = record {
    numbered = s.agree.numbered;
    next = s.agree.next;
    credit_is = s.agree.credit_is;
    fit = s.agree.fit;
    barriers = s.agree.barriers;
    last = s.agree.last;
    ended = s.agree.ended;
    finished = s.agree.finished;
    unfinished = s.agree.unfinished;
    blocked = s.agree.blocked;
  };
  room = s.room;
  lent = s.lent;
}

-- an announcement is no response
announcement_brings : (d c n : ℕ) (frames : List DataFrame) → responses d (frames ++ Announcement c n ∷ []) ≡ responses d frames
announcement_brings d c n frames = responses-append d frames (Announcement c n ∷ []) ∙ append-nil (responses d frames)

backlog_room : (c : ℕ) (w : World) (s : IsSoundLane c w) → s.reader.backlog ≤ ITEMS_MAX
backlog_room c w s = let is = s.sender.backlog_is in let room = s.room in omega (arith, is, room, count_by-le-length is_data (lane_of w c).items)

announces_at : (m : ℕ) (w : World) (o : Option Reader) → due_first w.sender ≡ o → IsSound m w → IsSound m (announces w o).0
announces_at m w None is sound = sound
announces_at m w (Some r) is sound =
    let found = first_is_found is_due 1 m w.sender.readers r (omega arith) sound.channels is in
    let c = found.0 in
    let high : c ≤ m = omega (arith, found.2) in
    let s = sound.each c found.1 high in
    let number : number_of r.channel ≡ c = (let low : 1 ≤ c = found.1 in ap number_of found.3 ∙ omega arith) in
    let reader : r ≡ s.reader = same_Some _ _ (sym found.4 ∙ s.found) in
    let room : r.backlog ≤ ITEMS_MAX = subst (λ (t : Reader). t.backlog ≤ ITEMS_MAX) (sym reader) (backlog_room c w s) in
    subst (λ t. IsSound m (record w { sender = t; frames = w.frames ++ Announcement (number_of r.channel) r.backlog ∷ [] })) (sym (ap (λ p. option_map_or (λ (q : Reader). happened q.channel Announced w.sender) p w.sender) is ∙ ap (λ i. happened i Announced w.sender) found.3))
    (keeps_happening m c w Announced (w.frames ++ Announcement (number_of r.channel) r.backlog ∷ []) w.controls sound found.1 high
    (λ d. announcement_brings d (number_of r.channel) r.backlog w.frames) (λ d other. refl) (λ d other. refl)
    (of_channels-append m w.frames (Announcement (number_of r.channel) r.backlog ∷ []) sound.frames (omega arith, omega arith, room, tt)) sound.controls
    (λ r s. announced_sound w.size (partition_limit w) (lane_of w c) r (responses c w.frames) (credit_coming c w.controls) (resumptions_coming c w.controls) s))

pub keeps_announce : (m : ℕ) (w : World) → IsSound m w → IsSound m (step w events.Announce).0
keeps_announce m w sound = announces_at m w (due_first w.sender) refl sound
