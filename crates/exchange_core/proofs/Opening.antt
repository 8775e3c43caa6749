-- The channels of a connection, while one after another is opened, and the connection once all are.
use Rattle.std.proofs.Common.{◌≡◌, ℕ, zero, suc, ◌*◌, List, [], ◌∷◌, ◌++◌, length, map, replicate, refl, sym, ap, subst, ◌∙◌, arith}
use Rattle.std.specs.List.{range_with_len, sum_by}
use Rattle.std.proofs.lemmas.List.{length_push, length-replicate, map-append, replicate_more}
use Rattle.std.proofs.lemmas.List.Elements.{All-push, All-nil}
use Rattle.std.proofs.lemmas.List.Sums.{sum_by-cons}
use Rattle.segment_pool.specs.declared.pool.Pool.{Pool}
use Rattle.segment_pool.specs.Pools.{IsLimited, size_of, total_of}
use Rattle.local_pool.specs.Shares.{share_of}
use Rattle.credit_reader.specs.Senders.{Sender, sender_of}
use Rattle.exchange_world.specs.Lanes as lanes
use Rattle.exchange_world.specs.Lanes.{channel_id, new_lane, floating_here}
use Rattle.exchange_world.specs.Worlds.{World, DataFrame, ControlFrame, opened, requested, pool_wants, partition_want, gate_want, partition_limit, gate_limit, gate_lent}
use Rattle.exchange_world.specs.Sound.{IsSound}
use Rattle.exchange_core.specs.declared.connection.Connection.{Connection}
use Rattle.exchange_core.specs.declared.lane.Lane.{Lane}
use Rattle.exchange_core.specs.Exchanges.{IsLaneOf, IsWhole, world_lane, world_frame, world_control, world_of}
use Rattle.exchange_core.specs.Opening.{lane_share, gate_share, IsPoolOf, AreNewLanes}

module _ (pool : Pool) (limit : ℕ) where
  pub no_lanes : (lanes : List Lane) → lanes ≡ [] → AreNewLanes pool limit lanes
  no_lanes lanes none = rw none (record { each = All-nil (IsLaneOf pool limit); new = refl })

  pub lanes_more : (lanes longer : List Lane) (lane : Lane) → longer ≡ lanes ++ lane ∷ [] → AreNewLanes pool limit lanes → IsLaneOf pool limit lane → world_lane lane ≡ new_lane (size_of pool) → AreNewLanes pool limit longer
  lanes_more lanes longer lane pushed before one new = rw pushed (record {
    each = All-push (IsLaneOf pool limit) lanes lane before.each one;
    new =
        map-append world_lane lanes (lane ∷ [])
        ∙ ap (λ ls. ls ++ world_lane lane ∷ []) before.new
        ∙ ap (λ l. replicate (length lanes) (new_lane (size_of pool)) ++ l ∷ []) new
        ∙ replicate_more (length lanes) (new_lane (size_of pool))
        ∙ ap (λ n. replicate n (new_lane (size_of pool))) (sym (length_push lanes lane));
  })

pub none_floating : (m size : ℕ) → sum_by (λ (lane : lanes.Lane). floating_here lane.inbox) (replicate m (new_lane size)) ≡ 0
none_floating zero size = refl
none_floating (suc m) size = sum_by-cons (λ (lane : lanes.Lane). floating_here lane.inbox) (new_lane size) (replicate m (new_lane size)) ∙ omega (arith, none_floating m size)

-- the limits and what is lent, in the world that was opened
lane_limit : (m size total : ℕ) → partition_limit (opened m size total) ≡ lane_share m total
lane_limit m size total = ap (λ n. share_of (pool_wants n) total partition_want) (length-replicate m (new_lane size))

gate_limit_opened : (m size total : ℕ) → gate_limit (opened m size total) ≡ gate_share m total
gate_limit_opened m size total = ap (λ n. share_of (pool_wants n) total (gate_want n)) (length-replicate m (new_lane size))

gate_lent_opened : (m size total : ℕ) → gate_lent (opened m size total) ≡ 2 * m
gate_lent_opened m size total = let count = length-replicate m (new_lane size) in let none = none_floating m size in omega (arith, count, none)

-- a world of these parts
abbrev world_with : ℕ → ℕ → List lanes.Lane → Sender → List DataFrame → List ControlFrame → World
world_with size total ls sender frames controls = record { size = size; total = total; lanes = ls; sender = sender; frames = frames; controls = controls }

pub opened_world : (c : Connection) (m : ℕ) → AreNewLanes c.pool c.partition_limit c.lanes.items → length c.lanes.items ≡ m → size_of c.pool ≡ c.size
    → c.readers ≡ requested (range_with_len 1 m) (sender_of (map channel_id (range_with_len 1 m))) → c.frames.items ≡ [] → c.controls.items ≡ [] → world_of c ≡ opened m c.size c.total
opened_world c m new count size sender frames controls =
    ap (λ ls. world_with c.size c.total ls c.readers (map world_frame c.frames.items) (map world_control c.controls.items)) (new.new ∙ ap (λ n. replicate n (new_lane (size_of c.pool))) count ∙ ap (λ s. replicate m (new_lane s)) size)
    ∙ ap (λ s. world_with c.size c.total (replicate m (new_lane c.size)) s (map world_frame c.frames.items) (map world_control c.controls.items)) sender
    ∙ ap (λ fs. world_with c.size c.total (replicate m (new_lane c.size)) (requested (range_with_len 1 m) (sender_of (map channel_id (range_with_len 1 m)))) (map world_frame fs) (map world_control c.controls.items)) frames
    ∙ ap (λ cs. world_with c.size c.total (replicate m (new_lane c.size)) (requested (range_with_len 1 m) (sender_of (map channel_id (range_with_len 1 m)))) [] (map world_control cs)) controls

module _ (c : Connection) (m size total : ℕ) (world : world_of c ≡ opened m size total) where
  pub opened_whole : IsSound m (opened m size total) → IsLimited c.pool → size_of c.pool ≡ size → total_of c.pool ≡ total → c.partition_limit ≡ lane_share m total
      → AreNewLanes c.pool c.partition_limit c.lanes.items → length c.lanes.items ≡ m → IsPoolOf c.pool (2 * m) (gate_share m total) (2 * m) c.gate → IsWhole c
  opened_whole sound limited size_is total_is limit new count gate = record {
    sound = subst (λ n. IsSound n (world_of c)) (sym count) (subst (IsSound m) (sym world) sound);
    limited = limited;
    size = size_is ∙ sym (ap (λ (w : World). w.size) world);
    total = total_is ∙ sym (ap (λ (w : World). w.total) world);
    partition = limit ∙ sym (ap partition_limit world ∙ lane_limit m size total);
    lanes = new.each;
    gate = gate.of_pool;
    gate_need = gate.need_is ∙ ap (λ n. 2 * n) (sym count);
    gate_limit_is = gate.limit_is ∙ sym (ap gate_limit world ∙ gate_limit_opened m size total);
    gate_lent_is = gate.lent_is ∙ sym (ap gate_lent world ∙ gate_lent_opened m size total);
  }
