use Rattle.std.proofs.Common.{◌≡◌, ◌+◌, take, max}
use Rattle.std.specs.List.{sum_by}
use Rattle.local_pool.specs.Locals.{lent_of, need_of}
use Rattle.exchange_core.proofs.Held.{held}
use Rattle.exchange_core.proofs.connection.Connection.count.Given as goal

abbrev pub invariant-loop-lane : goal.invariant-loop-lane
invariant-loop-lane l = l.lent ≡ max (need_of l.fn.self.gate) (lent_of l.fn.self.gate) + sum_by held (take l.lane-index l.fn.self.lanes.items)
