-- A world stays sound where one channel does, and what is on the way to and from the others stays.
use Rattle.std.proofs.Common.{◌≡◌, ℕ, zero, suc, ◌+◌, ◌-◌, ◌≤◌, List, length, replicate, refl, sym, ap, subst, arith}
use Rattle.std.proofs.lemmas.List.Sums.{sum_by-set}
use Rattle.flow_defs.specs.declared.parcel.Parcel.{Parcel}
use Rattle.credit_reader.specs.declared.reader.Reader.{Reader}
use Rattle.input_channel.specs.declared.entry.ReceiveEntry.TheVariants.{Added}
use Rattle.input_channel.specs.States.{channel_next}
use Rattle.exchange_world.specs.Lanes.{Lane, BUFFERS_MAX, new_lane, floating_here}
use Rattle.exchange_world.specs.Worlds.{World, DataFrame, ControlFrame, lane_of, with_lane, partition_limit, gate_lent, gate_limit}
use Rattle.exchange_world.specs.Steps.{after_all, gets, asks}
use Rattle.exchange_world.specs.Sound.{IsSound, IsSoundLane, AreOfChannels, ControlsAreOfChannels, responses, credit_coming, resumptions_coming}
use Rattle.exchange_world.proofs.LaneLemmas.{SoundOn, sound_on, is_sound_lane, lane_put, lane_stays, lanes_stay}
use Rattle.exchange_world.proofs.WorldLemmas.{limit_stays, gate_limit_stays, keeps_sound}
use Rattle.exchange_world.proofs.ReceivingLanes.{added_on}

-- The world with another channel in this one's place, and others on the way.
abbrev pub changed : World → ℕ → Lane → List DataFrame → List ControlFrame → World
changed w c lane frames controls = record (with_lane w c lane) { frames = frames; controls = controls }

-- What is on the way for a channel stays.
pub record StaysOnWay (d : ℕ) (w : World) (frames : List DataFrame) (controls : List ControlFrame) : Type 0 where
  pub way : responses d frames ≡ responses d w.frames
  pub credit : credit_coming d controls ≡ credit_coming d w.controls
  pub resumptions : resumptions_coming d controls ≡ resumptions_coming d w.controls

module _ (m : ℕ) (w : World) (sound : IsSound m w) (c : ℕ) (low : 1 ≤ c) (high : c ≤ m) (lane : Lane) (frames : List DataFrame) (controls : List ControlFrame) where
  gate_within : gate_lent w + floating_here lane.inbox ≤ gate_limit w + floating_here (lane_of w c).inbox → gate_lent (changed w c lane frames controls) ≤ gate_limit (changed w c lane frames controls)
  gate_within few =
      let within : c ≤ length w.lanes = omega (arith, sound.lanes, high) in
      let sums = sum_by-set (λ (lane : Lane). floating_here lane.inbox) w.lanes (c - 1) lane (new_lane w.size) (omega (arith, within, low)) in
      omega (arith, few, sums, gate_limit_stays w (changed w c lane frames controls) refl (lanes_stay w c lane), lanes_stay w c lane)

  pub keeps_lane : AreOfChannels m frames → ControlsAreOfChannels m controls → ((d : ℕ) → (d ≡ c → ⊥) → StaysOnWay d w frames controls)
      → SoundOn w.size (partition_limit w) lane (sound.each c low high).reader (responses c frames) (credit_coming c controls) (resumptions_coming c controls)
      → gate_lent w + floating_here lane.inbox ≤ gate_limit w + floating_here (lane_of w c).inbox
      → IsSound m (changed w c lane frames controls)
  keeps_lane of_frames of_controls others on few =
      let v = changed w c lane frames controls in
      let own = sound.each c low high in
      keeps_sound m c w v sound (record {
        size = refl;
        total = refl;
        lanes = lanes_stay w c lane;
        channels = refl;
        lane = λ d d_low d_high other. lane_stays w c lane low d d_low other;
        reader = λ d d_low d_high other. refl;
        way = λ d d_low d_high other. (others d other).way;
        credit = λ d d_low d_high other. (others d other).credit;
        resumptions = λ d d_low d_high other. (others d other).resumptions;
      }) sound.queue of_frames of_controls
      (λ c_low c_high. is_sound_lane c v _ _ lane own.reader _ _ _ refl (limit_stays w v refl (lanes_stay w c lane)) (lane_put w c lane low (omega (arith, sound.lanes, high))) own.found refl refl refl on)
      (gate_within few)

  -- where what is on the way stays for all
  pub keeps_own : frames ≡ w.frames → controls ≡ w.controls → SoundOn w.size (partition_limit w) lane (sound.each c low high).reader (responses c w.frames) (credit_coming c w.controls) (resumptions_coming c w.controls)
      → gate_lent w + floating_here lane.inbox ≤ gate_limit w + floating_here (lane_of w c).inbox
      → IsSound m (changed w c lane frames controls)
  keeps_own same_frames same_controls on few =
      keeps_lane (subst (AreOfChannels m) (sym same_frames) sound.frames) (subst (ControlsAreOfChannels m) (sym same_controls) sound.controls)
      (λ d other. record { way = ap (responses d) same_frames; credit = ap (credit_coming d) same_controls; resumptions = ap (resumptions_coming d) same_controls })
      (subst (λ x. SoundOn w.size (partition_limit w) lane (sound.each c low high).reader (responses c x) (credit_coming c controls) (resumptions_coming c controls)) (sym same_frames)
      (subst (λ x. SoundOn w.size (partition_limit w) lane (sound.each c low high).reader (responses c w.frames) (credit_coming c x) (resumptions_coming c x)) (sym same_controls) on))
      few

-- ---- a channel asks for floating buffers

-- A channel with so many floating buffers more.
abbrev with_added : ℕ → Lane → Lane
with_added n lane = record lane { inbox = after_all lane.inbox (replicate n Added) }

pub all_added : (size limit : ℕ) (n : ℕ) (lane : Lane) (r : Reader) (way : List (ℕ × Parcel)) (credit resumptions : ℕ) → SoundOn size limit lane r way credit resumptions → 2 + floating_here lane.inbox + n ≤ BUFFERS_MAX →
    SoundOn size limit (with_added n lane) r way credit resumptions × (floating_here (after_all lane.inbox (replicate n Added)) ≡ floating_here lane.inbox + n)
all_added size limit zero lane r way credit resumptions sound few = (sound, (let e : floating_here lane.inbox ≡ floating_here lane.inbox + 0 = omega arith in e))
all_added size limit (suc n) lane r way credit resumptions sound few =
    let one = added_on size lane r way credit resumptions limit sound (omega (arith, few)) in
    let next : Lane = record lane { inbox = channel_next lane.inbox Added } in
    let more : floating_here next.inbox ≡ floating_here lane.inbox + 1 = omega arith in
    let rest = all_added size limit n next r way credit resumptions one (omega (arith, few, more)) in
    (rest.0, (let e : floating_here (after_all next.inbox (replicate n Added)) ≡ floating_here lane.inbox + suc n = omega (arith, rest.1, more) in e))

-- no more than there is room for, and than the pool of the gate has
gets_few : (m : ℕ) (w : World) (c : ℕ) → IsSound m w → IsSoundLane c w → (2 + floating_here (lane_of w c).inbox + gets w c ≤ BUFFERS_MAX) × (gate_lent w + gets w c ≤ gate_limit w)
gets_few m w c sound lane = (omega (arith, lane.inbox.floating, lane.inbox.room_is), omega (arith, sound.gate))

pub keeps_asks : (m : ℕ) (w : World) (c : ℕ) → IsSound m w → 1 ≤ c → c ≤ m → IsSound m (asks w c)
keeps_asks m w c sound low high =
    let lane = sound.each c low high in
    let few = gets_few m w c sound lane in
    let added = all_added w.size (partition_limit w) (gets w c) (lane_of w c) lane.reader _ _ _ (sound_on c w lane) few.0 in
    keeps_own m w sound c low high (with_added (gets w c) (lane_of w c)) w.frames w.controls refl refl added.0 (omega (arith, few.1, added.1))
