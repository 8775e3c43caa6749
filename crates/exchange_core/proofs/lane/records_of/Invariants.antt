use Rattle.std.proofs.Common.{ℕ, length, map}
use Rattle.flow_defs.specs.Items.{Items}
use Rattle.exchange_core.proofs.Reading.{HasSpans}
use Rattle.exchange_core.proofs.lane.records_of.Given as goal

abbrev pub invariant-records : goal.invariant-records
invariant-records l = HasSpans l.fn.reader l.reader (map (λ (r : Items ℕ). r.items) l.records.items)

abbrev pub decreases-records : goal.decreases-records
decreases-records l = length l.reader
