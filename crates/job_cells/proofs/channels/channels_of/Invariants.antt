use Rattle.std.proofs.Common.{◌≡◌}
use Rattle.job_cells.specs.Spans.{ids_below}
use Rattle.job_cells.proofs.channels.channels_of.Given as goal

abbrev pub invariant-loop-to : goal.invariant-loop-to
invariant-loop-to l = l.ids.items ≡ ids_below l.span l.to
