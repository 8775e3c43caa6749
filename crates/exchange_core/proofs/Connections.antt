-- A connection once one of its channels was changed, and what that is in its world.
use Rattle.std.proofs.Common.{◌≡◌, ℕ, ◌-◌, ◌*◌, ◌≤◌, List, length, map, set, get_or, refl, sym, ap, subst, ◌∙◌, arith}
use Rattle.std.specs.Prelude.{IsSome}
use Rattle.std.specs.List.{All, refill}
use Rattle.std.proofs.lemmas.List.{get_or-set_same, length-set, set-get_or}
use Rattle.std.proofs.lemmas.List.Sums.{sum_by-set}
use Rattle.flow_defs.specs.Items.{Items}
use Rattle.flow_defs.proofs.Lists.{refilled}
use Rattle.credit_reader.specs.Readers.{Ready}
use Rattle.credit_reader.specs.Senders.{Sender, reader_of, happened}
use Rattle.local_pool.specs.Shares.{share_of}
use Rattle.local_pool.specs.Locals.{IsLocalOf, lent_of, need_of, limit_of}
use Rattle.segment_pool.specs.declared.pool.Pool.{Pool}
use Rattle.segment_pool.specs.Pools.{IsLimited, total_of, size_of}
use Rattle.script_text.specs.declared.reply.Reply.{Reply}
use Rattle.exchange_world.specs.Lanes as lanes
use Rattle.exchange_world.specs.Lanes.{channel_id, head_in, backlog_in, new_lane, floating_here}
use Rattle.exchange_world.specs.Worlds.{World, lane_of, pool_wants, partition_want, gate_want, gate_lent}
use Rattle.exchange_world.specs.Steps.{bare, puts}
use Rattle.exchange_world.specs.Sound.{IsSound}
use Rattle.exchange_core.specs.declared.connection.Connection.{Connection}
use Rattle.exchange_core.specs.declared.lane.Lane.{Lane}
use Rattle.exchange_core.specs.Exchanges.{world_lane, world_of, IsWhole, IsLaneOf, HasActed}
use Rattle.exchange_core.proofs.LaneLists.{lanes_set, lanes_count, lanes_with, lane_is, whole_lane}

-- ---- a list that was lent and written through

-- nothing was changed in it
pub put_back : {X : Type 0} (xs ms : List X) (i : ℕ) (d : X) → ms ≡ xs → refill (length xs) xs (set ms i (get_or ms i d)) ≡ xs
put_back xs ms i d is = ap (λ zs. refill (length xs) xs zs) (set-get_or ms i d ∙ is) ∙ refilled xs xs refl

-- ---- a connection that did nothing

pub has_stayed : (c d : Connection) (reply : Reply) (done : World × Reply) → IsWhole c → d ≡ c → done ≡ (world_of c, bare reply) → HasActed c d reply done
has_stayed c d reply done whole same is = record {
  whole = subst IsWhole (sym same) whole;
  world = ap world_of same ∙ sym (ap (λ (p : World × Reply). p.0) is);
  replied = sym (ap (λ (p : World × Reply). p.1) is);
}

-- ---- a channel that was lent for writing

module _ (c : Connection) (ms : List Lane) (n : ℕ) (e : Lane) (lent : ms ≡ c.lanes.items) where
  pub lent_is : 1 ≤ n → n ≤ length c.lanes.items → lane_of (world_of c) n ≡ world_lane (get_or ms (n - 1) e)
  lent_is low high = lane_is c n e low high ∙ ap (λ xs. world_lane (get_or xs (n - 1) e)) (sym lent)

  pub lent_whole : 1 ≤ n → n ≤ length c.lanes.items → IsWhole c → IsLaneOf c.pool c.partition_limit (get_or ms (n - 1) e)
  lent_whole low high whole = subst (λ xs. IsLaneOf c.pool c.partition_limit (get_or xs (n - 1) e)) (sym lent) (whole_lane c n e low high whole)

  -- it was not written to
  pub lent_stays : record c { lanes = record c.lanes { items = refill (length c.lanes.items) c.lanes.items (set ms (n - 1) (get_or ms (n - 1) e)) } } ≡ c
  lent_stays = ap (λ xs. record c { lanes = record c.lanes { items = xs } }) (put_back c.lanes.items ms (n - 1) e lent)

-- ---- one that is whole afterwards

pub record IsSameBase (c d : Connection) : Type 0 where
  pub pool : d.pool ≡ c.pool
  pub gate : d.gate ≡ c.gate
  pub size : d.size ≡ c.size
  pub total : d.total ≡ c.total
  pub limit : d.partition_limit ≡ c.partition_limit

pub whole_after : (c d : Connection) → IsWhole c → IsSameBase c d → length d.lanes.items ≡ length c.lanes.items → IsSound (length c.lanes.items) (world_of d)
    → All (IsLaneOf c.pool c.partition_limit) d.lanes.items → gate_lent (world_of d) ≡ gate_lent (world_of c) → IsWhole d
whole_after c d whole base many sound all lent =
    let count : length (map world_lane d.lanes.items) ≡ length (map world_lane c.lanes.items) = lanes_count d.lanes.items ∙ many ∙ sym (lanes_count c.lanes.items) in
    record {
      sound = subst (λ m. IsSound m (world_of d)) (sym many) sound;
      limited = subst IsLimited (sym base.pool) whole.limited;
      size = ap size_of base.pool ∙ whole.size ∙ sym base.size;
      total = ap total_of base.pool ∙ whole.total ∙ sym base.total;
      partition = base.limit ∙ whole.partition ∙ sym (ap (λ n. share_of (pool_wants n) d.total partition_want) count ∙ ap (λ t. share_of (pool_wants (length (map world_lane c.lanes.items))) t partition_want) base.total);
      lanes = subst (λ (p : Pool). All (IsLaneOf p d.partition_limit) d.lanes.items) (sym base.pool) (subst (λ n. All (IsLaneOf c.pool n) d.lanes.items) (sym base.limit) all);
      gate = subst (λ (p : Pool). IsLocalOf p d.gate) (sym base.pool) (subst (λ g. IsLocalOf c.pool g) (sym base.gate) whole.gate);
      gate_need = ap need_of base.gate ∙ whole.gate_need ∙ ap (λ n. 2 * n) (sym many);
      gate_limit_is = ap limit_of base.gate ∙ whole.gate_limit_is ∙ sym (ap (λ n. share_of (pool_wants n) d.total (gate_want n)) count ∙ ap (λ t. share_of (pool_wants (length (map world_lane c.lanes.items))) t (gate_want (length (map world_lane c.lanes.items)))) base.total);
      gate_lent_is = ap lent_of base.gate ∙ whole.gate_lent_is ∙ sym lent;
    }

-- ---- one channel changed, but not its receiving end

pub gate_stays : (w : World) (ls : List lanes.Lane) (n : ℕ) (lane : lanes.Lane) → 1 ≤ n → n ≤ length w.lanes → ls ≡ set w.lanes (n - 1) lane → lane.inbox ≡ (lane_of w n).inbox
    → gate_lent (record w { lanes = ls }) ≡ gate_lent w
gate_stays w ls n lane low high is same =
    let many : length ls ≡ length w.lanes = ap length is ∙ length-set w.lanes (n - 1) lane in
    let sums = sum_by-set (λ (l : lanes.Lane). floating_here l.inbox) w.lanes (n - 1) lane (new_lane w.size) (omega arith) in
    let floating : floating_here lane.inbox ≡ floating_here (lane_of w n).inbox = ap floating_here same in
    ap (λ zs. gate_lent (record w { lanes = zs })) is ∙ omega (arith, length-set w.lanes (n - 1) lane, sums, floating)

module _ (c d : Connection) (n : ℕ) (lane : Lane) (low : 1 ≤ n) (high : n ≤ length c.lanes.items) (is : d.lanes.items ≡ set c.lanes.items (n - 1) lane) where
  -- the world's channels are those of the connection
  pub world_lanes : (world_of d).lanes ≡ set (world_of c).lanes (n - 1) (world_lane lane)
  world_lanes = ap (map world_lane) is ∙ lanes_set c.lanes.items (n - 1) lane

  pub lanes_stay : length d.lanes.items ≡ length c.lanes.items
  lanes_stay = ap length is ∙ length-set c.lanes.items (n - 1) lane

  pub lanes_hold : IsWhole c → IsLaneOf c.pool c.partition_limit lane → All (IsLaneOf c.pool c.partition_limit) d.lanes.items
  lanes_hold whole here = subst (λ xs. All (IsLaneOf c.pool c.partition_limit) xs) (sym is) (lanes_with (IsLaneOf c.pool c.partition_limit) c.lanes.items (n - 1) lane here whole.lanes)

  gate_same : (world_lane lane).inbox ≡ (lane_of (world_of c) n).inbox → gate_lent (world_of d) ≡ gate_lent (world_of c)
  gate_same same = gate_stays (world_of c) (world_of d).lanes n (world_lane lane) low (omega (arith, lanes_count c.lanes.items)) world_lanes same

  pub whole_lane_put : IsWhole c → IsSameBase c d → IsLaneOf c.pool c.partition_limit lane → (world_lane lane).inbox ≡ (lane_of (world_of c) n).inbox
      → IsSound (length c.lanes.items) (world_of d) → IsWhole d
  whole_lane_put whole base here same sound = whole_after c d whole base lanes_stay sound (lanes_hold whole here) (gate_same same)

-- ---- items were put on a channel, and the readers told

-- what the readers are told
abbrev pub told : ℕ → lanes.Lane → Sender → Sender
told n lane sender = happened (channel_id n) (Ready (head_in lane.items) (backlog_in lane.items)) sender

put_world : (w : World) (n : ℕ) (lane : lanes.Lane) → 1 ≤ n → n ≤ length w.lanes → puts w n lane ≡ record w { lanes = set w.lanes (n - 1) lane; sender = told n lane w.sender }
put_world w n lane low high =
    ap (λ l. record w { lanes = set w.lanes (n - 1) lane; sender = told n l w.sender }) (get_or-set_same w.lanes (n - 1) lane (new_lane w.size) (omega arith))

module _ (c : Connection) (ls : Items Lane) (sender : Sender) (n : ℕ) (lane : Lane) (reply : Reply) (done : World × Reply) (whole : IsWhole c) (low : 1 ≤ n) (high : n ≤ length c.lanes.items)
    (is : ls.items ≡ set c.lanes.items (n - 1) lane) (here : IsLaneOf c.pool c.partition_limit lane) (same : (world_lane lane).inbox ≡ (lane_of (world_of c) n).inbox)
    (sender_is : sender ≡ told n (world_lane lane) c.readers) (done_is : done ≡ (puts (world_of c) n (world_lane lane), bare reply)) (sound : IsSound (length c.lanes.items) done.0) where
  put_is_world : world_of (record c { lanes = ls; readers = sender }) ≡ done.0
  put_is_world =
      ap (λ zs. record (world_of c) { lanes = zs; sender = sender }) (world_lanes c (record c { lanes = ls; readers = sender }) n lane low high is)
      ∙ ap (λ s. record (world_of c) { lanes = set (world_of c).lanes (n - 1) (world_lane lane); sender = s }) sender_is
      ∙ sym (ap (λ (p : World × Reply). p.0) done_is ∙ put_world (world_of c) n (world_lane lane) low (omega (arith, lanes_count c.lanes.items)))

  pub put_acted : HasActed c (record c { lanes = ls; readers = sender }) reply done
  put_acted = record {
    whole = whole_lane_put c (record c { lanes = ls; readers = sender }) n lane low high is whole (record { pool = refl; gate = refl; size = refl; total = refl; limit = refl }) here same
        (subst (IsSound (length c.lanes.items)) (sym put_is_world) sound);
    world = put_is_world;
    replied = sym (ap (λ (p : World × Reply). p.1) done_is);
  }

-- ---- the readers of a whole connection

pub is_known : (c : Connection) (n : ℕ) → IsWhole c → 1 ≤ n → n ≤ length c.lanes.items → IsSome (reader_of (channel_id n) c.readers.readers)
is_known c n whole low high = subst IsSome (sym (whole.sound.each n low high).found) refl
