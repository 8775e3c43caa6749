-- Lists of channels of which one was changed, and what a world has of them.
use Rattle.std.proofs.Common.{◌≡◌, ℕ, ◌-◌, ◌<◌, ◌≤◌, List, length, map, set, get_or, arith}
use Rattle.std.specs.List.{All}
use Rattle.std.proofs.lemmas.List.{map-set, get_or-map, length-map}
use Rattle.std.proofs.lemmas.List.Elements.{All-set, All-get_or}
use Rattle.exchange_world.specs.Lanes as lanes
use Rattle.exchange_world.specs.Worlds.{lane_of}
use Rattle.exchange_core.specs.declared.connection.Connection.{Connection}
use Rattle.exchange_core.specs.declared.lane.Lane.{Lane}
use Rattle.exchange_core.specs.Exchanges.{world_lane, world_of, IsWhole, IsLaneOf}

-- the world's channels, where one of the connection's was set
pub lanes_set : (xs : List Lane) (i : ℕ) (y : Lane) → map world_lane (set xs i y) ≡ set (map world_lane xs) i (world_lane y)
lanes_set xs i y = map-set world_lane xs i y

-- one of the world's channels is that of the connection
pub lane_at : (xs : List Lane) (i : ℕ) (d : lanes.Lane) (e : Lane) → i < length xs → get_or (map world_lane xs) i d ≡ world_lane (get_or xs i e)
lane_at xs i d e within = get_or-map world_lane xs i e d within

pub lanes_count : (xs : List Lane) → length (map world_lane xs) ≡ length xs
lanes_count xs = length-map xs world_lane

-- what holds of all channels holds of each, and stays where one with it is set
pub each_lane : (P : Lane → Type 0) (xs : List Lane) (i : ℕ) (e : Lane) → i < length xs → All P xs → P (get_or xs i e)
each_lane P xs i e within all = All-get_or P xs i e within all

pub lanes_with : (P : Lane → Type 0) (xs : List Lane) (i : ℕ) (y : Lane) → P y → All P xs → All P (set xs i y)
lanes_with P xs i y one all = All-set P xs i y one all

-- the channel with a number, from 1 on, as the connection has it and as its world has it
pub lane_is : (c : Connection) (n : ℕ) (e : Lane) → 1 ≤ n → n ≤ length c.lanes.items → lane_of (world_of c) n ≡ world_lane (get_or c.lanes.items (n - 1) e)
lane_is c n e low high = lane_at c.lanes.items (n - 1) _ e (omega arith)

pub whole_lane : (c : Connection) (n : ℕ) (e : Lane) → 1 ≤ n → n ≤ length c.lanes.items → IsWhole c → IsLaneOf c.pool c.partition_limit (get_or c.lanes.items (n - 1) e)
whole_lane c n e low high whole = each_lane (IsLaneOf c.pool c.partition_limit) c.lanes.items (n - 1) e (omega arith) whole.lanes
