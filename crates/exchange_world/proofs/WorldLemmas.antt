-- A world that stays sound where one channel changes and the others stay as they are.
use Rattle.std.proofs.Common.{◌≡◌, ℕ, suc, ◌+◌, ◌-◌, ◌≤◌, true, false, cond, eqb, List, [], ◌∷◌, ◌++◌, length, map, refl, sym, ap, subst, ◌∙◌, arith, inl, inr}
use Rattle.std.proofs.lemmas.Bool.{cases_eq}
use Rattle.std.proofs.lemmas.List.{length-set}
use Rattle.std.proofs.lemmas.List.Sums.{sum_by-set}
use Rattle.credit_reader.specs.declared.reader.Reader.{Reader}
use Rattle.credit_reader.specs.Senders.{reader_of}
use Rattle.credit_reader.specs.Laws.{HoldsEachOnce}
use Rattle.local_pool.specs.Shares.{share_of}
use Rattle.exchange_world.specs.Lanes.{Lane, new_lane, channel_id, floating_here}
use Rattle.exchange_world.specs.Worlds.{World, DataFrame, Response, Announcement, ControlFrame, AddCredit, Resumption, lane_of, with_lane, partition_want, gate_want, pool_wants, partition_limit, gate_limit, gate_lent}
use Rattle.exchange_world.specs.Theorems.{CanOpen}
use Rattle.exchange_world.specs.Sound.{responses, credit_coming, resumptions_coming, AreOfChannels, ControlsAreOfChannels, IsSoundLane, IsSound}
use Rattle.exchange_world.proofs.LaneLemmas.{stays_sound}

-- ---- frames behind others

pub responses-append : (c : ℕ) (fs gs : List DataFrame) → responses c (fs ++ gs) ≡ responses c fs ++ responses c gs
responses-append c [] gs = refl
responses-append c (Response d sequence p backlog ∷ fs) gs =
    elim (eqb d c) as (λ b. cond b ((sequence, p) ∷ responses c (fs ++ gs)) (responses c (fs ++ gs)) ≡ cond b ((sequence, p) ∷ responses c fs) (responses c fs) ++ responses c gs) [
      | true ↦ ap (λ rs. (sequence, p) ∷ rs) (responses-append c fs gs)
      | false ↦ responses-append c fs gs
    ]
responses-append c (Announcement d n ∷ fs) gs = responses-append c fs gs

pub of_channels-append : (m : ℕ) (fs gs : List DataFrame) → AreOfChannels m fs → AreOfChannels m gs → AreOfChannels m (fs ++ gs)
of_channels-append m [] gs here there = there
of_channels-append m (Response c sequence p backlog ∷ fs) gs here there = (here.0, here.1, here.2, of_channels-append m fs gs here.3 there)
of_channels-append m (Announcement c n ∷ fs) gs here there = (here.0, here.1, here.2, of_channels-append m fs gs here.3 there)

pub credit_coming-append : (c : ℕ) (fs gs : List ControlFrame) → credit_coming c (fs ++ gs) ≡ credit_coming c fs + credit_coming c gs
credit_coming-append c [] gs = omega arith
credit_coming-append c (AddCredit d n ∷ fs) gs =
    elim (eqb d c) as (λ b. cond b (n + credit_coming c (fs ++ gs)) (credit_coming c (fs ++ gs)) ≡ cond b (n + credit_coming c fs) (credit_coming c fs) + credit_coming c gs) [
      | true ↦ omega (arith, credit_coming-append c fs gs)
      | false ↦ credit_coming-append c fs gs
    ]
credit_coming-append c (Resumption d ∷ fs) gs = credit_coming-append c fs gs

pub resumptions_coming-append : (c : ℕ) (fs gs : List ControlFrame) → resumptions_coming c (fs ++ gs) ≡ resumptions_coming c fs + resumptions_coming c gs
resumptions_coming-append c [] gs = omega arith
resumptions_coming-append c (AddCredit d n ∷ fs) gs = resumptions_coming-append c fs gs
resumptions_coming-append c (Resumption d ∷ fs) gs =
    elim (eqb d c) as (λ b. cond b (suc (resumptions_coming c (fs ++ gs))) (resumptions_coming c (fs ++ gs)) ≡ cond b (suc (resumptions_coming c fs)) (resumptions_coming c fs) + resumptions_coming c gs) [
      | true ↦ omega (arith, resumptions_coming-append c fs gs)
      | false ↦ resumptions_coming-append c fs gs
    ]

pub controls_are-append : (m : ℕ) (fs gs : List ControlFrame) → ControlsAreOfChannels m fs → ControlsAreOfChannels m gs → ControlsAreOfChannels m (fs ++ gs)
controls_are-append m [] gs here there = there
controls_are-append m (AddCredit c n ∷ fs) gs here there = (here.0, here.1, here.2, controls_are-append m fs gs here.3 there)
controls_are-append m (Resumption c ∷ fs) gs here there = (here.0, here.1, controls_are-append m fs gs here.2 there)

-- ---- one channel changes

-- Of the channels from 1 to m only this one changes, with its reader and what is on the way.
pub record ChangesOnly (m c : ℕ) (w v : World) : Type 0 where
  pub size : v.size ≡ w.size
  pub total : v.total ≡ w.total
  pub lanes : length v.lanes ≡ length w.lanes
  pub channels : map (λ (r : Reader). r.channel) v.sender.readers ≡ map (λ (r : Reader). r.channel) w.sender.readers
  pub lane : (d : ℕ) → 1 ≤ d → d ≤ m → (d ≡ c → ⊥) → lane_of v d ≡ lane_of w d
  pub reader : (d : ℕ) → 1 ≤ d → d ≤ m → (d ≡ c → ⊥) → reader_of (channel_id d) v.sender.readers ≡ reader_of (channel_id d) w.sender.readers
  pub way : (d : ℕ) → 1 ≤ d → d ≤ m → (d ≡ c → ⊥) → responses d v.frames ≡ responses d w.frames
  pub credit : (d : ℕ) → 1 ≤ d → d ≤ m → (d ≡ c → ⊥) → credit_coming d v.controls ≡ credit_coming d w.controls
  pub resumptions : (d : ℕ) → 1 ≤ d → d ≤ m → (d ≡ c → ⊥) → resumptions_coming d v.controls ≡ resumptions_coming d w.controls

pub limit_stays : (w v : World) → v.total ≡ w.total → length v.lanes ≡ length w.lanes → partition_limit v ≡ partition_limit w
limit_stays w v total lanes = ap (λ n. share_of (pool_wants n) v.total partition_want) lanes ∙ ap (λ t. share_of (pool_wants (length w.lanes)) t partition_want) total

pub gate_limit_stays : (w v : World) → v.total ≡ w.total → length v.lanes ≡ length w.lanes → gate_limit v ≡ gate_limit w
gate_limit_stays w v total lanes = ap (λ n. share_of (pool_wants n) v.total (gate_want n)) lanes ∙ ap (λ t. share_of (pool_wants (length w.lanes)) t (gate_want (length w.lanes))) total

-- so the world stays sound where that channel and what is of the whole world is
pub keeps_sound : (m c : ℕ) (w v : World) → IsSound m w → ChangesOnly m c w v → HoldsEachOnce v.sender → AreOfChannels m v.frames → ControlsAreOfChannels m v.controls
    → (1 ≤ c → c ≤ m → IsSoundLane c v) → gate_lent v ≤ gate_limit v → IsSound m v
keeps_sound m c w v sound only queue frames controls here gate = record {
  opening = subst (λ t. CanOpen m v.size t) (sym only.total) (subst (λ s. CanOpen m s w.total) (sym only.size) sound.opening);
  lanes = only.lanes ∙ sound.lanes;
  channels = only.channels ∙ sound.channels;
  queue = queue;
  frames = frames;
  controls = controls;
  each = λ d low high. elim (cases_eq d c) [
    | inl is ↦ subst (λ e. IsSoundLane e v) (sym is) (here (omega arith) (omega arith))
    | inr other ↦ stays_sound d w v (sound.each d low high) only.size (limit_stays w v only.total only.lanes) (only.lane d low high other) (only.reader d low high other)
        (only.way d low high other) (only.credit d low high other) (only.resumptions d low high other)
  ];
  gate = gate;
}

-- the gate has lent as much where the inbox of the channel that changes is as it was
pub gate_lent_stays : (w : World) (c : ℕ) (lane : Lane) → 1 ≤ c → c ≤ length w.lanes → lane.inbox ≡ (lane_of w c).inbox → gate_lent (with_lane w c lane) ≡ gate_lent w
gate_lent_stays w c lane low high same =
    let lanes : length (with_lane w c lane).lanes ≡ length w.lanes = length-set w.lanes (c - 1) lane in
    let sums = sum_by-set (λ (l : Lane). floating_here l.inbox) w.lanes (c - 1) lane (new_lane w.size) (omega arith) in
    let floating : floating_here lane.inbox ≡ floating_here (lane_of w c).inbox = ap floating_here same in
    omega (arith, lanes, sums, floating)
