-- A connection of which the receiving end of one channel has changed.
use Rattle.std.proofs.Common.{◌≡◌, ℕ, Bool, true, false, cond, ◌+◌, ◌-◌, ◌*◌, ◌<◌, ◌≤◌, List, All, length, map, set, get_or, refl, sym, ap, subst, ◌∙◌, arith}
use Rattle.std.specs.List.{sum_by}
use Rattle.std.proofs.lemmas.List.{length-set, length-map, get_or_default, set-get_or}
use Rattle.std.proofs.lemmas.List.Sums.{sum_by-set, get_or-le-sum_by}
use Rattle.credit_reader.specs.Senders.{Sender}
use Rattle.segment_pool.specs.declared.pool.Pool.{Pool}
use Rattle.segment_pool.specs.Pools.{IsLimited, total_of, size_of}
use Rattle.input_channel.specs.Inboxes.{waiting}
use Rattle.input_channel.specs.States.{ChannelState, starts_waiting}
use Rattle.local_pool.specs.declared.local.LocalPool.{LocalPool}
use Rattle.local_pool.specs.Shares.{share_of}
use Rattle.local_pool.specs.Locals.{IsLocalOf, lent_of}
use Rattle.script_text.specs.declared.event.Event.{Event}
use Rattle.script_text.specs.declared.reply.Reply.{Reply}
use Rattle.script_text.specs.Scripts.{IsEvent}
use Rattle.exchange_world.specs.Lanes as lanes
use Rattle.exchange_world.specs.Lanes.{floating_here}
use Rattle.exchange_world.specs.Worlds.{World, DataFrame, ControlFrame, lane_of, partition_want, gate_want, pool_wants, partition_limit, gate_limit, gate_lent}
use Rattle.exchange_world.specs.Steps.{step, bare}
use Rattle.exchange_world.specs.Sound.{IsSound}
use Rattle.exchange_world.specs.Laws.{StepsKeepSound}
use Rattle.exchange_core.specs.declared.connection.Connection.{Connection}
use Rattle.exchange_core.specs.declared.lane.Lane.{Lane}
use Rattle.exchange_core.specs.declared.frames.DataFrame as data_frame
use Rattle.exchange_core.specs.declared.frames.ControlFrame as control_frame
use Rattle.exchange_core.specs.Exchanges.{world_lane, world_frame, world_control, world_of, IsLaneOf, IsWhole, HasActed}
use Rattle.exchange_core.specs.Inlets.{GateFollows, with_inbox, with_save}
use Rattle.exchange_core.proofs.LaneLists.{lanes_set, lane_at, lane_is, lanes_with, whole_lane}

-- ---- lists

-- what was read there is there
pub old_is : {X : Type 0} (xs ys : List X) (i : ℕ) (d : X) → ys ≡ xs → i < length xs → get_or xs i (get_or ys i d) ≡ get_or ys i d
old_is xs ys i d is within = get_or_default xs i (get_or ys i d) d within ∙ ap (λ zs. get_or zs i d) (sym is)

-- ---- one channel

pub lane_with : (pool : Pool) (limit : ℕ) (lane : Lane) (inbox : ChannelState) (rest : List ℕ) → IsLaneOf pool limit lane → IsLaneOf pool limit (with_inbox lane inbox rest)
lane_with pool limit lane inbox rest of = record {
  size = of.size;
  room = of.room;
  barriers = of.barriers;
  finished = of.finished;
  segments = of.segments;
  partition = of.partition;
  need = of.need;
  limit_is = of.limit_is;
  lent = of.lent;
  owed = refl;
}

pub lane_saved : (pool : Pool) (limit : ℕ) (lane : Lane) (k : ℕ) → IsLaneOf pool limit lane → IsLaneOf pool limit (with_save k lane)
lane_saved pool limit lane k of = record {
  size = of.size;
  room = of.room;
  barriers = of.barriers;
  finished = of.finished;
  segments = of.segments;
  partition = of.partition;
  need = of.need;
  limit_is = of.limit_is;
  lent = of.lent;
  owed = of.owed;
}

-- ---- the connection

-- Its channel at i is another one, its gate's pool may be, and frames may.
pub record Changes (before after : Connection) (i : ℕ) (lane : Lane) : Type 0 where
  pub pool : after.pool ≡ before.pool
  pub size : after.size ≡ before.size
  pub total : after.total ≡ before.total
  pub limit : after.partition_limit ≡ before.partition_limit
  pub readers : after.readers ≡ before.readers
  pub lanes : after.lanes.items ≡ set before.lanes.items i lane

module _ (before after : Connection) (i : ℕ) (lane : Lane) (ch : Changes before after i lane) where
  same_count : length after.lanes.items ≡ length before.lanes.items
  same_count = ap length ch.lanes ∙ length-set before.lanes.items i lane

  world_count : length (world_of after).lanes ≡ length (world_of before).lanes
  world_count = length-map after.lanes.items world_lane ∙ same_count ∙ sym (length-map before.lanes.items world_lane)

  partition_stays : partition_limit (world_of after) ≡ partition_limit (world_of before)
  partition_stays = ap (λ n. share_of (pool_wants n) after.total partition_want) world_count ∙ ap (λ t. share_of (pool_wants (length (world_of before).lanes)) t partition_want) ch.total

  gate_stays : gate_limit (world_of after) ≡ gate_limit (world_of before)
  gate_stays = ap (λ n. share_of (pool_wants n) after.total (gate_want n)) world_count ∙ ap (λ t. share_of (pool_wants (length (world_of before).lanes)) t (gate_want (length (world_of before).lanes))) ch.total

  gate_lent_now : (old : Lane) → i < length before.lanes.items → get_or before.lanes.items i old ≡ old → gate_lent (world_of after) + floating_here old.inbox ≡ gate_lent (world_of before) + floating_here lane.inbox
  gate_lent_now old within is =
      let f : lanes.Lane → ℕ = λ (l : lanes.Lane). floating_here l.inbox in
      let ws = map world_lane before.lanes.items in
      let sums = sum_by-set f ws i (world_lane lane) (world_lane old) (omega (arith, within, length-map before.lanes.items world_lane)) in
      let now : sum_by f (map world_lane after.lanes.items) ≡ sum_by f (set ws i (world_lane lane)) = ap (λ xs. sum_by f (map world_lane xs)) ch.lanes ∙ ap (sum_by f) (lanes_set before.lanes.items i lane) in
      let here : f (get_or ws i (world_lane old)) ≡ floating_here old.inbox = ap f (lane_at before.lanes.items i (world_lane old) old within ∙ ap world_lane is) in
      let count = world_count in
      omega (arith, sums, now, here, count)

  keeps_whole : (old : Lane) → IsWhole before → i < length before.lanes.items → get_or before.lanes.items i old ≡ old
      → IsLaneOf before.pool before.partition_limit lane → GateFollows before.pool before.gate after.gate (floating_here old.inbox) (floating_here lane.inbox)
      → IsSound (length before.lanes.items) (world_of after) → IsWhole after
  keeps_whole old whole within is of gate sound =
      let lent_now = gate_lent_now old within is in
      let lent_then = gate.lent in
      let lent_was = whole.gate_lent_is in
      record {
        sound = subst (λ m. IsSound m (world_of after)) (sym same_count) sound;
        limited = subst IsLimited (sym ch.pool) whole.limited;
        size = ap size_of ch.pool ∙ whole.size ∙ sym ch.size;
        total = ap total_of ch.pool ∙ whole.total ∙ sym ch.total;
        partition = ch.limit ∙ whole.partition ∙ sym partition_stays;
        lanes = subst (λ p. All (IsLaneOf p after.partition_limit) after.lanes.items) (sym ch.pool) (
            subst (λ l. All (IsLaneOf before.pool l) after.lanes.items) (sym ch.limit) (
            subst (λ xs. All (IsLaneOf before.pool before.partition_limit) xs) (sym ch.lanes) (lanes_with (IsLaneOf before.pool before.partition_limit) before.lanes.items i lane of whole.lanes)));
        gate = subst (λ p. IsLocalOf p after.gate) (sym ch.pool) gate.local;
        gate_need = gate.same.need ∙ whole.gate_need ∙ ap (λ n. 2 * n) (sym same_count);
        gate_limit_is = gate.same.limit ∙ whole.gate_limit_is ∙ sym gate_stays;
        gate_lent_is = omega (arith, lent_now, lent_then, lent_was);
      }

-- ---- the world

world_made : ℕ → ℕ → List lanes.Lane → Sender → List DataFrame → List ControlFrame → World
world_made size total ls sender frames controls = record { size = size; total = total; lanes = ls; sender = sender; frames = frames; controls = controls }

-- with that channel and these frames
abbrev pub put_world : Connection → ℕ → Lane → List data_frame.DataFrame → List control_frame.ControlFrame → World
put_world before i lane frames controls = record (world_of before) { lanes = set (world_of before).lanes i (world_lane lane); frames = map world_frame frames; controls = map world_control controls }

world_put : (before after : Connection) (i : ℕ) (lane : Lane) → Changes before after i lane → world_of after ≡ put_world before i lane after.frames.items after.controls.items
unfolding world_made
world_put before after i lane ch =
    let fs = map world_frame after.frames.items in
    let cs = map world_control after.controls.items in
    ap (λ n. world_made n after.total (map world_lane after.lanes.items) after.readers fs cs) ch.size
    ∙ ap (λ n. world_made before.size n (map world_lane after.lanes.items) after.readers fs cs) ch.total
    ∙ ap (λ s. world_made before.size before.total (map world_lane after.lanes.items) s fs cs) ch.readers
    ∙ ap (λ ls. world_made before.size before.total ls before.readers fs cs) (ap (map world_lane) ch.lanes ∙ lanes_set before.lanes.items i lane)

-- The connection has acted, where this is done to the channel.
pub acts_as : (before after : Connection) (done : World × Reply) (i : ℕ) (old lane : Lane) (reply : Reply)
    → IsWhole before → IsSound (length before.lanes.items) done.0 → i < length before.lanes.items → get_or before.lanes.items i old ≡ old
    → Changes before after i lane → IsLaneOf before.pool before.partition_limit lane → GateFollows before.pool before.gate after.gate (floating_here old.inbox) (floating_here lane.inbox)
    → done ≡ (put_world before i lane after.frames.items after.controls.items, bare reply) → HasActed before after reply done
acts_as before after done i old lane reply whole stays within is ch of gate does =
    let world : world_of after ≡ done.0 = world_put before after i lane ch ∙ sym (ap (λ (d : World × Reply). d.0) does) in
    record {
      whole = keeps_whole before after i lane ch old whole within is of gate (subst (IsSound (length before.lanes.items)) (sym world) stays);
      world = world;
      replied = sym (ap (λ (d : World × Reply). d.1) does);
    }

pub acts : (before after : Connection) (e : Event) (i : ℕ) (old lane : Lane) (reply : Reply)
    → StepsKeepSound → IsWhole before → IsEvent (length before.lanes.items) e → i < length before.lanes.items → get_or before.lanes.items i old ≡ old
    → Changes before after i lane → IsLaneOf before.pool before.partition_limit lane → GateFollows before.pool before.gate after.gate (floating_here old.inbox) (floating_here lane.inbox)
    → step (world_of before) e ≡ (put_world before i lane after.frames.items after.controls.items, bare reply) → HasActed before after reply (step (world_of before) e)
acts before after e i old lane reply keeps whole event within is ch of gate does =
    acts_as before after (step (world_of before) e) i old lane reply whole (keeps (length before.lanes.items) (world_of before) e whole.sound event) within is ch of gate does

-- a gate's pool that stays
pub gate_same : (pool : Pool) (gate : LocalPool) (had has : ℕ) → IsLocalOf pool gate → had ≡ has → GateFollows pool gate gate had has
gate_same pool gate had has of same = record { local = of; same = record { need = refl; most = refl; limit = refl; number = refl }; lent = ap (λ n. lent_of gate + n) same }

-- the world's channel
pub lane_now : (b : Connection) (c : ℕ) (old : Lane) → 1 ≤ c → c ≤ length b.lanes.items → get_or b.lanes.items (c - 1) old ≡ old → lane_of (world_of b) c ≡ world_lane old
lane_now b c old low high is = lane_is b c old low high ∙ ap world_lane is

pub old_lane : (b : Connection) (c : ℕ) (old : Lane) → 1 ≤ c → c ≤ length b.lanes.items → get_or b.lanes.items (c - 1) old ≡ old → IsWhole b → IsLaneOf b.pool b.partition_limit old
old_lane b c old low high is whole = subst (IsLaneOf b.pool b.partition_limit) is (whole_lane b c old low high whole)

-- a channel whose receiving end is another one
pub lane_in : (pool : Pool) (limit : ℕ) (lane : Lane) (inbox : ChannelState) (owed : ℕ) (rest : List ℕ) → IsLaneOf pool limit lane → owed ≡ inbox.owed
    → IsLaneOf pool limit (record lane { inbox = inbox; owed = owed; reader = rest })
lane_in pool limit lane inbox owed rest of same = record {
  size = of.size;
  room = of.room;
  barriers = of.barriers;
  finished = of.finished;
  segments = of.segments;
  partition = of.partition;
  need = of.need;
  limit_is = of.limit_is;
  lent = of.lent;
  owed = same;
}

-- what a step makes of the world is the world that is put
pub put_as : (before : Connection) (frames : List data_frame.DataFrame) (controls : List control_frame.ControlFrame) (i : ℕ) (lane : Lane) (x : lanes.Lane) (fs : List DataFrame) (cs : List ControlFrame) (r : Reply)
    → x ≡ world_lane lane → fs ≡ map world_frame frames → cs ≡ map world_control controls
    → (let d : World × Reply = (record (world_of before) { lanes = set (world_of before).lanes i x; frames = fs; controls = cs }, r) in d) ≡ (put_world before i lane frames controls, r)
unfolding world_made
put_as before frames controls i lane x fs cs r x_is fs_are cs_are =
    let ls = (world_of before).lanes in
    let made : List lanes.Lane → List DataFrame → List ControlFrame → World × Reply = λ l f k. (world_made before.size before.total l before.readers f k, r) in
    ap (λ y. made (set ls i y) fs cs) x_is ∙ ap (λ f. made (set ls i (world_lane lane)) f cs) fs_are ∙ ap (λ k. made (set ls i (world_lane lane)) (map world_frame frames) k) cs_are

pub kept_as : (before : Connection) (frames : List data_frame.DataFrame) (controls : List control_frame.ControlFrame) (i : ℕ) (lane : Lane) (d : lanes.Lane) (r : Reply)
    → get_or (world_of before).lanes i d ≡ world_lane lane → (world_of before).frames ≡ map world_frame frames → (world_of before).controls ≡ map world_control controls
    → (let d : World × Reply = (world_of before, r) in d) ≡ (put_world before i lane frames controls, r)
unfolding world_made
kept_as before frames controls i lane d r here fs_are cs_are =
    let ls = (world_of before).lanes in
    ap (λ (l : List lanes.Lane). let e : World × Reply = (world_made before.size before.total l before.readers (world_of before).frames (world_of before).controls, r) in e) (sym (set-get_or ls i d))
    ∙ put_as before frames controls i lane (get_or ls i d) (world_of before).frames (world_of before).controls r here fs_are cs_are

-- ---- what soundness says of a channel

module _ (b : Connection) (c : ℕ) (old : Lane) (low : 1 ≤ c) (high : c ≤ length b.lanes.items) (is : get_or b.lanes.items (c - 1) old ≡ old) (whole : IsWhole b) where
  pub inbox_size : old.inbox.size ≡ size_of b.pool
  inbox_size = sym (ap (λ (l : lanes.Lane). l.inbox.size) (lane_now b c old low high is)) ∙ (whole.sound.each c low high).inbox.size_is ∙ sym whole.size

  pub inbox_line : (waiting old.inbox.line ≡ old.inbox.queue) × (starts_waiting old.inbox.line ≡ true)
  inbox_line =
      let here = lane_now b c old low high is in
      let sound = (whole.sound.each c low high).inbox in
      (subst (λ (l : lanes.Lane). waiting l.inbox.line ≡ l.inbox.queue) here sound.line, subst (λ (l : lanes.Lane). starts_waiting l.inbox.line ≡ true) here sound.first)

  pub owed_few : old.owed ≤ 1
  owed_few =
      let of = old_lane b c old low high is whole in
      let here : (lane_of (world_of b) c).inbox.owed ≡ old.inbox.owed = ap (λ (l : lanes.Lane). l.inbox.owed) (lane_now b c old low high is) in
      let lane = whole.sound.each c low high in
      let owed = of.owed in
      let all = lane.agree.blocked in
      let one = at_most_one lane.reader.blocked in
      omega (arith, here, owed, all, one)
    where
      at_most_one : (x : Bool) → cond x 1 0 ≤ 1
      at_most_one true = omega arith
      at_most_one false = omega arith

  pub lent_enough : floating_here old.inbox ≤ lent_of b.gate
  lent_enough =
      let w = world_of b in
      let part = get_or-le-sum_by (λ (l : lanes.Lane). floating_here l.inbox) w.lanes (c - 1) (lanes.new_lane w.size) (omega (arith, low, high, length-map b.lanes.items world_lane)) in
      let here : floating_here (lane_of w c).inbox ≡ floating_here old.inbox = ap (λ (l : lanes.Lane). floating_here l.inbox) (lane_now b c old low high is) in
      let lent = whole.gate_lent_is in
      omega (arith, part, here, lent)
