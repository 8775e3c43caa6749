-- The segments that the pools of a connection have kept or lent.
use Rattle.std.proofs.Common.{◌≡◌, ℕ, suc, ◌+◌, ◌*◌, List, [], ◌∷◌, All, length, map, max, cond, refl, sym, ap, ◌∙◌, arith}
use Rattle.std.specs.List.{sum_by}
use Rattle.std.proofs.lemmas.List.{length-map}
use Rattle.std.proofs.lemmas.List.Sums.{sum_by-cons}
use Rattle.flow_defs.specs.Parcels.{is_data}
use Rattle.segment_pool.specs.declared.pool.Pool.{Pool}
use Rattle.subpartition.specs.declared.item.Item.{Item}
use Rattle.subpartition.specs.declared.item.Item.TheVariants as items
use Rattle.subpartition.specs.Queues.{parcel_of, backlog_of}
use Rattle.local_pool.specs.Locals.{lent_of, need_of}
use Rattle.exchange_world.specs.Lanes as lanes
use Rattle.exchange_world.specs.Lanes.{backlog_in}
use Rattle.exchange_world.specs.Worlds.{partition_lent, all_held, gate_lent}
use Rattle.exchange_core.specs.declared.lane.Lane.{Lane}
use Rattle.exchange_core.specs.declared.connection.Connection.{Connection}
use Rattle.exchange_core.specs.Exchanges.{IsLaneOf, IsWhole, world_lane, world_of}

-- what the partition's pool of a channel has kept and lent
abbrev pub held : Lane → ℕ
held lane = max (need_of lane.partition) (lent_of lane.partition)

-- the backlog is that of the parcels
pub backlog_is : (xs : List Item) → backlog_in (map parcel_of xs) ≡ backlog_of xs
backlog_is [] = refl
backlog_is (items.Buffer filled ∷ xs) = sum_by-cons (λ p. cond (is_data p) 1 0) (parcel_of (items.Buffer filled)) (map parcel_of xs) ∙ omega (arith, backlog_is xs)
backlog_is (items.Barrier k kind ∷ xs) = sum_by-cons (λ p. cond (is_data p) 1 0) (parcel_of (items.Barrier k kind)) (map parcel_of xs) ∙ omega (arith, backlog_is xs)
backlog_is (items.End ∷ xs) = sum_by-cons (λ p. cond (is_data p) 1 0) (parcel_of items.End) (map parcel_of xs) ∙ omega (arith, backlog_is xs)

pub lent_in_lane : (pool : Pool) (limit : ℕ) (lane : Lane) → IsLaneOf pool limit lane → lent_of lane.partition ≡ partition_lent (world_lane lane)
lent_in_lane pool limit lane of = let one = of.lent in let two = backlog_is lane.queue.items in omega (arith, one, two)

-- what all of them have is what the world's have
pub held_by_all : (pool : Pool) (limit : ℕ) (xs : List Lane) → All (IsLaneOf pool limit) xs → sum_by held xs ≡ sum_by (λ (lane : lanes.Lane). max 2 (partition_lent lane)) (map world_lane xs)
held_by_all pool limit [] all = refl
held_by_all pool limit (x ∷ xs) all =
    let one : IsLaneOf pool limit x = all 0 x (omega arith) in
    let own : held x ≡ max 2 (partition_lent (world_lane x)) = ap (λ n. max n (lent_of x.partition)) one.need ∙ ap (max 2) (lent_in_lane pool limit x one) in
    let rest = held_by_all pool limit xs (λ k d within. all (suc k) d (omega (arith, within))) in
    let here = sum_by-cons held x xs in
    let there = sum_by-cons (λ (lane : lanes.Lane). max 2 (partition_lent lane)) (world_lane x) (map world_lane xs) in
    omega (arith, own, rest, here, there)

pub all_held_is : (c : Connection) → IsWhole c → max (need_of c.gate) (lent_of c.gate) + sum_by held c.lanes.items ≡ all_held (world_of c)
all_held_is c whole =
    let parts = held_by_all c.pool c.partition_limit c.lanes.items whole.lanes in
    let count : length (world_of c).lanes ≡ length c.lanes.items = length-map c.lanes.items world_lane in
    let need = whole.gate_need in
    let lent = whole.gate_lent_is in
    let gate : max (need_of c.gate) (lent_of c.gate) ≡ max (2 * length (world_of c).lanes) (gate_lent (world_of c)) = ap (λ n. max n (lent_of c.gate)) (need ∙ ap (λ k. 2 * k) (sym count)) ∙ ap (max (2 * length (world_of c).lanes)) lent in
    omega (arith, parts, gate)
