use Rattle.std.proofs.Common.{◌≡◌, ◌+◌, ◌*◌, length}
use Rattle.std.specs.List.{All}
use Rattle.local_pool.specs.Locals.{need_of, lent_of, limit_of}
use Rattle.exchange_core.specs.Opening.{IsPoolReady, IsPoolOf, AreNewLanes}
use Rattle.exchange_core.proofs.open.open_lanes.Given as goal

abbrev pub invariant-passes : goal.invariant-passes
invariant-passes g l = record {
  gate : IsPoolOf l.pool (need_of l.fn.gate) (limit_of l.fn.gate) (lent_of l.fn.gate + 2 * length l.lanes.items) l.gate;
  passes : All (IsPoolReady l.pool l.limit) l.passes.items;
  lanes : AreNewLanes l.pool l.limit l.lanes.items;
  count : length l.lanes.items + length l.passes.items ≡ length l.fn.passes.items;
}

abbrev pub decreases-passes : goal.decreases-passes
decreases-passes g l = length l.passes.items
