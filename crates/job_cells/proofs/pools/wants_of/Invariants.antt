use Rattle.std.proofs.Common.{◌≡◌}
use Rattle.plain_machine.specs.Worth.{concat_below}
use Rattle.job_cells.specs.Grants.{wants_on}
use Rattle.job_cells.proofs.pools.wants_of.Given as goal

abbrev pub invariant-loop-edge : goal.invariant-loop-edge
invariant-loop-edge l = l.wants.items ≡ concat_below l.edge (wants_on l.job)
