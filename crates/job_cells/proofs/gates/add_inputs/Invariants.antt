use Rattle.std.proofs.Common.{◌≡◌, ◌*◌}
use Rattle.segment_pool.specs.Pools.{size_of}
use Rattle.local_pool.specs.Locals.{IsLocalOf, lent_of, limit_of}
use Rattle.job_cells.specs.Ends.{AreInputs, HasGate}
use Rattle.job_cells.specs.Groups.{AreDealt}
use Rattle.job_cells.proofs.gates.add_inputs.Given as goal

abbrev pub invariant-loop-way : goal.invariant-loop-way
invariant-loop-way g l = record {
  local : IsLocalOf l.pool l.local;
  limit : limit_of l.local ≡ limit_of l.fn.local;
  lent : lent_of l.local ≡ 2 * l._way;
  dealt : AreDealt l.group;
  opened : AreInputs (size_of l.pool) l.group.cells.items;
  gate : HasGate l._way l.fn.group.cells.items l.group.cells.items l.own.items;
}
