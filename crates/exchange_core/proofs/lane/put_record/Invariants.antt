use Rattle.std.proofs.Common.{◌-◌, ◌≡◌, ◌+◌, ◌≤◌, false, length, map}
use Rattle.flow_defs.specs.declared.parcel.Parcel.TheVariants as parcels
use Rattle.segment_pool.specs.Pools.{size_of}
use Rattle.local_pool.specs.Locals.{lent_of}
use Rattle.exchange_world.specs.Lanes.{ITEMS_MAX}
use Rattle.exchange_world.specs.Steps.{with_items}
use Rattle.exchange_core.specs.Exchanges.{IsLaneOf, world_lane}
use Rattle.exchange_core.specs.Lanes.{buffers}
use Rattle.exchange_core.proofs.Pieces.{rest_of}
use Rattle.exchange_core.proofs.lane.put_record.Given as goal

abbrev pub invariant-buffers : goal.invariant-buffers
invariant-buffers g l = record {
  within : l.done ≤ l.len;
  lane : IsLaneOf l.pool l.limit l.lane;
  unfinished : l.lane.finished ≡ false;
  rest : with_items (world_lane l.lane) (map parcels.Data (rest_of (size_of l.pool) l.done l.text)) ≡ with_items (world_lane l.fn.lane) (buffers l.pool l.text);
  lent : lent_of l.lane.partition + length (rest_of (size_of l.pool) l.done l.text) ≤ l.limit;
  room : length l.lane.queue.items + length (rest_of (size_of l.pool) l.done l.text) ≤ ITEMS_MAX;
}

abbrev pub decreases-buffers : goal.decreases-buffers
decreases-buffers g l = l.len - l.done
