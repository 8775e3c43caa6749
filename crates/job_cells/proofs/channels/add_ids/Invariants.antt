use Rattle.std.proofs.Common.{◌≡◌, ◌++◌}
use Rattle.job_cells.specs.Spans.{ids_into}
use Rattle.job_cells.proofs.channels.add_ids.Given as goal

abbrev pub invariant-loop-way : goal.invariant-loop-way
invariant-loop-way l = l.ids.items ≡ l.fn.ids.items ++ ids_into l.span l.to l.way
