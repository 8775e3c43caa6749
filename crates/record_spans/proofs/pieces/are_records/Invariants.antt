use Rattle.std.proofs.Common.{◌++◌, ◌≤◌, ◌↔◌, ◌-◌, drop}
use Rattle.record_spans.proofs.PieceLemmas.{AreSpanned}
use Rattle.record_spans.proofs.pieces.are_records.Given as goal

-- what is left encodes records exactly where all does
abbrev pub invariant-records : goal.invariant-records
invariant-records l = record {
  within : l.place ≤ l.total;
  same : AreSpanned (l.first ++ l.second) ↔ AreSpanned (drop l.place (l.first ++ l.second));
}

abbrev pub decreases-records : goal.decreases-records
decreases-records l = l.total - l.place
